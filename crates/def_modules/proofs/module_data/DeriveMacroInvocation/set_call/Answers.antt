use Rattle.std.proofs.Common.{◌<◌, ◌≤◌, Some, vec_len, ap, sym, arith, rules}
use Rattle.def_modules.specs.ScopeMaps.{derive_state}
use Rattle.def_modules.proofs.MapsLemmas.{set-update, missing}
use Rattle.def_modules.proofs.module_data.DeriveMacroInvocation.set_call.Goals as goal

pub returns-in-Some : goal.returns-in-Some
returns-in-Some c =
    let d = c.args.self.now in
    let within : c.args.pos < vec_len d.calls = search rules in
    ap (λ xs. record (derive_state d) { calls = xs }) (set-update d.calls.items c.args.pos (Some c.args.call) (omega (arith, d.calls.ok.0)))

pub returns-in_default : goal.returns-in_default
returns-in_default c =
    let d = c.args.self.now in
    let beyond : vec_len d.calls ≤ c.args.pos = search rules in
    ap (λ xs. record (derive_state d) { calls = xs }) (sym (missing d.calls.items c.args.pos (λ before. Some c.args.call) (omega (arith, d.calls.ok.0))))
