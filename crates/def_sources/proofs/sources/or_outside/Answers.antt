use Rattle.std.proofs.Common.{◌≡◌, ◌∙◌, sym, true, false}
use Rattle.def_ids.specs.Ids.{is_block_root}
use Rattle.def_sources.specs.Asking.{question_in, map_in}
use Rattle.def_sources.specs.Items.{is_fitting}
use Rattle.def_sources.specs.Sources.{extern_source, macro_use_source, prelude_source, unless_block_root}
use Rattle.def_sources.proofs.SourcesLemmas.{with_three, with_skipped, with_unskipped}
use Rattle.def_sources.proofs.sources.or_outside.Goals as goal

pub returns-then-is_block_root : goal.returns-then-is_block_root
returns-then-is_block_root g c before e =
    let q = question_in g.D.PathDatabase.oracle c.args.asking.now in
    let own = map_in g.T.BindingTable.content c.args.asking.now in
    let keep = is_fitting q.kind_of c.args.segment.sub in
    let place = c.args.segment.place in
    let root : is_block_root place ≡ true = sym c.is_block_root.ensures ∙ c.if-is_block_root.true in
    let made = c.or_macro_use.result in
    with_three keep before (unless_block_root place (extern_source q)) (macro_use_source own) (unless_block_root place (prelude_source q own))
    c.args.segment.name c.args.found c.args.found made made e
    (with_skipped keep place (extern_source q) c.args.segment.name c.args.found root)
    c.or_macro_use.ensures
    (with_skipped keep place (prelude_source q own) c.args.segment.name made root)

pub returns : goal.returns
returns g c before e =
    let q = question_in g.D.PathDatabase.oracle c.args.asking.now in
    let own = map_in g.T.BindingTable.content c.args.asking.now in
    let keep = is_fitting q.kind_of c.args.segment.sub in
    let place = c.args.segment.place in
    let inner : is_block_root place ≡ false = sym c.is_block_root.ensures ∙ c.if-is_block_root.false in
    with_three keep before (unless_block_root place (extern_source q)) (macro_use_source own) (unless_block_root place (prelude_source q own))
    c.args.segment.name c.args.found c.or_extern.result c.or_macro_use-found.result c.or_prelude.result e
    (with_unskipped keep place (extern_source q) c.args.segment.name c.args.found c.or_extern.result inner c.or_extern.ensures)
    c.or_macro_use-found.ensures
    (with_unskipped keep place (prelude_source q own) c.args.segment.name c.or_macro_use-found.result c.or_prelude.result inner c.or_prelude.ensures)
