-- What a function that exports a procedural macro leads to, as it is performed.
use Rattle.std.proofs.Common.{◌≡◌, ◌∙◌, Bool, true, false, List, [], ◌∷◌, ◌++◌, refl, sym, ap, subst}
use Rattle.std.proofs.lemmas.Bool.{and_parts}
use Rattle.tree_ids.specs.declared.name.Name.{Name}
use Rattle.def_ids.specs.declared.ids.FunctionId.{FunctionId}
use Rattle.def_ids.specs.declared.ids.ModuleId.{ModuleId}
use Rattle.def_bindings.specs.declared.bindings.Entry.{Entry}
use Rattle.def_bindings.specs.declared.bindings.Namespace.TheVariants.{Values}
use Rattle.def_bindings.specs.declared.visibility.Visibility.{Visibility}
use Rattle.def_bindings.specs.Puts.{IsExplicit}
use Rattle.def_oracle.specs.Oracle.{Oracle}
use Rattle.def_rules.specs.ProcMacros.{taken_out, takes_out}
use Rattle.def_rules.specs.State.{State, Task, Put, TakeOut, order}
use Rattle.def_rules.specs.Targets.{leaves_out, target_of}
use Rattle.def_laws.specs.Own.{Stands}
use Rattle.def_laws.specs.Performs.{Performs, Updated}
use Rattle.def_laws.proofs.FootprintLaws.{waits_alike}
use Rattle.def_laws.proofs.LeftOutLaws.{leaves_alike, left_out_along}
use Rattle.def_laws.proofs.PlainLaws.{ArePlain, plain_followed}
use Rattle.def_laws.proofs.StandsLaws.{stands_along, stands_first}
use Rattle.def_laws.proofs.StepsLaws.{performs_updated}
use Rattle.def_laws.proofs.TakenLaws.{raised_taken, sound_taken}
use Rattle.def_laws.proofs.WaveLaws.{runs_task, runs_trans}

module _ {oracle : Oracle} where
  -- a task is performed, and then others, none of them for a glob
  performs_first : (task : Task) (tasks : List Task) (s t u : State) → ArePlain (task ∷ []) → ArePlain tasks → Performs oracle (task ∷ []) s t → Performs oracle tasks t u → Performs oracle (task ∷ tasks) s u
  performs_first task tasks s t u first others p q = record {
    runs = λ rest. runs_trans (p.runs (tasks ++ rest)) (q.runs rest);
    calm = λ rest before. (p.calm (tasks ++ rest) before, q.calm rest (p.runs (tasks ++ rest) before).0);
    keeps = λ followed stands sound. q.keeps (plain_followed (target_of t.map.id t.targets) tasks others) (stands_then stands) (p.keeps (plain_followed (target_of s.map.id s.targets) (task ∷ []) first) (stands_first tasks stands) sound);
    raised = λ rest stands sound before importer slot left kept raised.
        q.raised rest (stands_then stands) (p.keeps (plain_followed (target_of s.map.id s.targets) (task ∷ []) first) (stands_first tasks stands) sound) (p.runs (tasks ++ rest) before).0 importer slot
        (leaves_alike (left_out_along (p.runs tasks []).1) importer ∙ left) kept.1 (p.raised (tasks ++ rest) (stands_first tasks stands) sound before importer slot left kept.0 raised);
    waits = waits_alike (q.waits.macros ∙ p.waits.macros) (q.waits.expansions ∙ p.waits.expansions) (q.waits.deferred ∙ p.waits.deferred) (q.waits.is_proc_macro ∙ p.waits.is_proc_macro) (q.waits.inner_calls ∙ p.waits.inner_calls);
  }
    where
      stands_then : Stands (task ∷ tasks) s → Stands tasks t
      stands_then stands = stands_along (p.runs tasks []).1 stands

  -- a function is taken out, or is not there
  takes_by : (at : ModuleId) (name : Name) (function : FunctionId) (s : State) (takes : Bool) → takes_out s at name function ≡ takes → Performs oracle (TakeOut at name function ∷ []) s (taken_out s at name function takes).state
  takes_by at name function s true known = record {
    runs = λ rest. runs_task (TakeOut at name function) rest s (taken_out s at name function true) (ap (taken_out s at name function) (sym known));
    calm = λ rest before. tt;
    keeps = λ followed stands sound. sound_taken s.content at name Values (and_parts (leaves_out s at) _ known).0 sound;
    raised = λ rest stands sound before importer slot left kept raised. raised_taken s.content at name Values (order s) importer slot raised;
    waits = waits_alike refl refl refl refl refl;
  }
  takes_by at name function s false known = record {
    runs = λ rest. runs_task (TakeOut at name function) rest s (taken_out s at name function false) (ap (taken_out s at name function) (sym known));
    calm = λ rest before. tt;
    keeps = λ followed stands sound. sound;
    raised = λ rest stands sound before importer slot left kept raised. raised;
    waits = waits_alike refl refl refl refl refl;
  }

  performs_taken : (at : ModuleId) (name : Name) (function : FunctionId) (s t : State) → t ≡ (taken_out s at name function (takes_out s at name function)).state → Performs oracle (TakeOut at name function ∷ []) s t
  performs_taken at name function s t is = subst (Performs oracle (TakeOut at name function ∷ []) s) (sym is) (takes_by at name function s (takes_out s at name function) refl)

  -- a function was put, its macro was put, and then it was taken out
  pub performs_exported : (at root : ModuleId) (function macro : Entry Visibility) (name : Name) (taken : FunctionId) (s t u v : State) → IsExplicit function.origin → IsExplicit macro.origin
      → Updated at (function ∷ []) s t → Updated root (macro ∷ []) t u → v ≡ (taken_out u at name taken (takes_out u at name taken)).state
      → Performs oracle (Put at function ∷ Put root macro ∷ TakeOut at name taken ∷ []) s v
  performs_exported at root function macro name taken s t u v own its first second is =
      performs_first (Put at function) (Put root macro ∷ TakeOut at name taken ∷ []) s t v (own, tt) (its, (tt, tt)) (performs_updated at (function ∷ []) s t first)
      (performs_first (Put root macro) (TakeOut at name taken ∷ []) t u v (its, tt) (tt, tt) (performs_updated root (macro ∷ []) t u second) (performs_taken at name taken u v is))
