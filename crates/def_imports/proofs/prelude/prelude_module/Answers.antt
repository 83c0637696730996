use Rattle.std.proofs.Common.{cond, None, ap, sym, ◌∙◌}
use Rattle.def_map.specs.Asking.{world_lent}
use Rattle.def_map.specs.Paths.{for_module, module_found, resolve}
use Rattle.def_rules.specs.Crates.{prelude_path}
use Rattle.def_sources.specs.Tables.{bound_by}
use Rattle.def_imports.proofs.prelude.prelude_module.Goals as goal

pub returns-then-krate : goal.returns-then-krate
returns-then-krate g c =
    let krate = c.args.krate.now in
    let w = world_lent g.D.SourceDatabase.oracle bound_by c.args.world.now in
    sym (ap (λ b. cond b None (module_found (resolve w for_module (record { map = w.map.facts.id; index = 0 }) (prelude_path krate.edition krate.no_std w.local)))) c.if-krate.true)

pub returns : goal.returns
returns g c =
    let krate = c.args.krate.now in
    let w = world_lent g.D.SourceDatabase.oracle bound_by c.args.world.now in
    c.resolve_module.ensures ∙ ap (λ path. module_found (resolve w for_module (record { map = w.map.facts.id; index = 0 }) path)) c.in_ok-path.ensures
    ∙ sym (ap (λ b. cond b None (module_found (resolve w for_module (record { map = w.map.facts.id; index = 0 }) (prelude_path krate.edition krate.no_std w.local)))) c.if-krate.false)
