use Rattle.std.proofs.Common.{◌∙◌, sym, ap, ◌∷◌, []}
use Rattle.std.specs.Option.{option_map_or}
use Rattle.def_bindings.specs.ModuleTree.{chain_in}
use Rattle.def_bindings.specs.TreeLaws.{chain_of-next}
use Rattle.def_bindings.proofs.TreeLemmas.{option_map_or-option_map}
use Rattle.def_bindings.proofs.module_tree.ModuleTree.step.Goals as goal

pub returns-clause-chain : goal.returns-clause-chain
returns-clause-chain c =
    let t = c.args.self.now in
    chain_of-next t.map t.parents t.containing t.lower t.apart c.args.here.at
    ∙ ap (λ o. c.args.here.at ∷ option_map_or (chain_in t) o []) (sym c.follow.ensures.at)
    ∙ ap (λ l. c.args.here.at ∷ l) (option_map_or-option_map (chain_in t) (λ p. p.at) c.follow.result [])
