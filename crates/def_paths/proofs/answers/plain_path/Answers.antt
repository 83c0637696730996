use Rattle.def_sources.specs.Asking.{question_in, map_in}
use Rattle.def_paths.proofs.AnswersLemmas.{plain-alone, plain-longer}
use Rattle.def_paths.proofs.answers.plain_path.Goals as goal

pub returns-in-len1 : goal.returns-in-len1
returns-in-len1 g c =
    let q = question_in g.D.PathDatabase.oracle c.args.asking.now in
    let own = map_in g.T.BindingTable.content c.args.asking.now in
    plain-alone q own c.args.place c.args.asking.now.asked.sub c.as_slice-segments.result.now c.args.path.now.segments (record { 0 = 0 }) c.relative-found.result c.from_name.result
    c.as_slice-segments.ensures c.in-len1.len_at_least c.in-len1.len_below c.relative-found.ensures c.from_name.ensures

pub returns-in-len1-up : goal.returns-in-len1-up
returns-in-len1-up g c =
    let q = question_in g.D.PathDatabase.oracle c.args.asking.now in
    let own = map_in g.T.BindingTable.content c.args.asking.now in
    plain-longer q own c.args.place c.args.asking.now.asked.sub c.as_slice-segments.result.now c.args.path.now.segments (record { 0 = 0 }) c.relative_type.result c.from_prefix.result
    c.as_slice-segments.ensures c.in-len1-up.len_at_least c.relative_type.ensures c.from_prefix.ensures
