use Rattle.std.proofs.Common.{Some, ap, ◌∙◌}
use Rattle.def_tables.specs.BoundName.{with_namespace}
use Rattle.def_tables.specs.Parts.{parts_in}
use Rattle.def_tables.specs.Short.{long}
use Rattle.def_tables.specs.declared.part.Part.TheVariants.{Numbers}
use Rattle.def_tables.proofs.PartsLemmas.{bound-some, parts-put, parts-vacant, some-put}
use Rattle.def_tables.proofs.bound_name.both.Goals as goal

pub invariant_of-new : goal.invariant_of-new
invariant_of-new g c =
    record { some = some-put c.put.new.self c.put-2.new.self c.args.ns c.in_ok-second.second c.put-2.ensures (bound-some g.K.Kept.meaning c.args.map c.in_ok-second.second c.args.binding.now c.in_ok-second.ensures) }

pub returns : goal.returns
returns g c =
    let map = c.args.map in
    let ns = c.args.ns in
    ap (λ e. parts_in g.K.Kept.meaning map e.parts) c.in_ok-new.ensures.ok
    ∙ parts-put g.K.Kept.meaning map c.put.new.self c.put-2.new.self ns c.in_ok-second.second c.put-2.ensures
    ∙ ap (with_namespace (parts_in g.K.Kept.meaning map c.put.new.self) ns) c.in_ok-second.ensures
    ∙ ap (λ f. with_namespace f ns (Some c.args.binding.now)) (parts-put g.K.Kept.meaning map c.vacant-parts.result c.put.new.self c.args.own (Numbers c.args.first) c.put.ensures
    ∙ ap (λ f. with_namespace f c.args.own (Some (long g.K.Kept.meaning map c.args.first))) (parts-vacant g.K.Kept.meaning map c.vacant-parts.result c.vacant-parts.ensures))
