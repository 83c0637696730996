use Rattle.std.proofs.Common.{◌∙◌, sym}
use Rattle.def_sources.specs.Asking.{question_in, map_in}
use Rattle.def_paths.proofs.MacroLemmas.{alone-macros}
use Rattle.def_paths.proofs.macro_resolution.macro_in.Goals as goal

pub returns-in-Some : goal.returns-in-Some
returns-in-Some g c =
    alone-macros (question_in g.D.PathDatabase.oracle c.args.asking.now) (map_in g.T.BindingTable.content c.args.asking.now) c.args.place c.args.path.now c.in-Some.name
    c.relative_macro.result (sym c.as_ident.ensures ∙ c.in-Some.is) c.relative_macro.ensures
