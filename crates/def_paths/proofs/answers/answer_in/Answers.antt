use Rattle.def_sources.specs.Asking.{question_in}
use Rattle.def_sources.specs.Items.{is_fitting}
use Rattle.def_paths.specs.OuterMaps.{asked_kind}
use Rattle.def_paths.proofs.answers.answer_in.Goals as goal

pub returns-in-Crate : goal.returns-in-Crate
returns-in-Crate g c =
    let q = question_in g.D.PathDatabase.oracle c.args.asking.now in
    rw (c.in-Crate.is, ← c.crate_root-root.ensures) (c.from_module.ensures (is_fitting q.kind_of (asked_kind q c.args.path.now)))

pub returns-in-DollarCrate : goal.returns-in-DollarCrate
returns-in-DollarCrate g c =
    let q = question_in g.D.PathDatabase.oracle c.args.asking.now in
    rw (c.in-DollarCrate.is, ← c.crate_root.ensures) (c.from_module-in-DollarCrate.ensures (is_fitting q.kind_of (asked_kind q c.args.path.now)))

pub returns-in-Super : goal.returns-in-Super
returns-in-Super g c =
    let q = question_in g.D.PathDatabase.oracle c.args.asking.now in
    rw (c.in-Super.is, ← c.ancestor-ancestor.ensures) (c.from_module-in-Super.ensures (is_fitting q.kind_of (asked_kind q c.args.path.now)))

pub returns-in-Abs : goal.returns-in-Abs
returns-in-Abs g c = rw c.in-Abs.is c.absolute_path.ensures

pub returns-in-Plain : goal.returns-in-Plain
returns-in-Plain g c = rw c.in-Plain.is c.plain_path.ensures
