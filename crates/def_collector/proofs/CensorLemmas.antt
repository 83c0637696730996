-- The state in which a root of procedural macros is censored.
use Rattle.std.proofs.Common.{◌≡◌, ◌∙◌, true, false, ◌&&◌, sym, ap}
use Rattle.def_interner.specs.declared.interner.Interner.{Interner}
use Rattle.def_bindings.specs.declared.visibility.Visibility.{Visibility}
use Rattle.def_bindings.specs.Content.{Content}
use Rattle.def_ids.specs.Ids.{is_same_module}
use Rattle.def_map.specs.Oracle.{Oracle}
use Rattle.def_rules.specs.ProcMacros.{censored_in}
use Rattle.def_rules.specs.Report.{with_censored, with_macro_reports}
use Rattle.def_rules.specs.State.{State, root, with_content}
use Rattle.def_collector.specs.Collector.{state_of, with_reported}
use Rattle.def_collector.specs.declared.collector.DefCollector.{DefCollector}

-- in a crate that is none of procedural macros nothing is censored
pub censored_none : (s : State) → s.is_proc_macro ≡ false → s ≡ with_censored s
censored_none s none = ap (with_content s) (sym (ap (λ b. censored_in (λ m. b && is_same_module (root s.map) m) s.content) none))

-- in one of them the root is
pub censored_root : (s : State) (content : Content Visibility) → s.is_proc_macro ≡ true → content ≡ censored_in (is_same_module (root s.map)) s.content → with_content s content ≡ with_censored s
censored_root s content procs is = ap (with_content s) (is ∙ sym (ap (λ b. censored_in (λ m. b && is_same_module (root s.map) m) s.content) procs))

-- macros that are reported of the censored end are those of the end
pub reported_censored : (oracle : Oracle) (session : Interner) (end ended answered reported : DefCollector) → ended ≡ end → state_of answered session ≡ with_censored (state_of ended session)
    → state_of reported session ≡ with_reported oracle (state_of answered session) → state_of reported session ≡ with_macro_reports oracle (state_of end session)
reported_censored oracle session end ended answered reported same censors reports =
    reports ∙ ap (with_reported oracle) (censors ∙ ap (λ (k : DefCollector). with_censored (state_of k session)) same)
