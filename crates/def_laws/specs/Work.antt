-- The work of a walk: more than the visits that it can still lead to.
use Rattle.std.specs.Prelude.{ℕ, suc, ◌<◌, ◌+◌, ◌-◌, ◌*◌, ◌^◌, List, [], ◌∷◌, Option, None, Some, sum_by}
use Rattle.tree_ids.specs.declared.ids.ModItemId.{ModItemId}
use Rattle.def_rules.specs.State.{Site, Task, Visit}

-- how far a visit is from the end of a walk, as one number: first the levels of expansions that are left, then those of directories, which lie at most 32 deep, then the items of its tree from it on
abbrev pub rank : Site → ModItemId → ℕ
rank site id = ((2 ^ 32 - site.depth) * 34 + (33 - site.directory.depth)) * 2 ^ 65 + (2 ^ 64 - id.0)

-- what a visit of a rank weighs: more than 2^64 visits of lower ranks together
unfoldable pub weight : ℕ → ℕ
weight rank = (2 ^ 65) ^ suc rank

-- the rank of a visit; no other task has one
abbrev pub rank_of : Task → Option ℕ
rank_of (Visit site id) = Some (rank site id)
rank_of _ = None

-- the work of a task, by its rank
abbrev pub rank_work : Option ℕ → ℕ
rank_work None = 0
rank_work (Some r) = weight r

-- the work of a task
abbrev pub task_work : Task → ℕ
task_work task = rank_work (rank_of task)

-- the work of a list of tasks
abbrev pub work : List Task → ℕ
work tasks = sum_by task_work tasks

-- a rank, if there is one, is lower than this
abbrev pub IsBelow : ℕ → Option ℕ → Type 0
IsBelow r None = Unit {0}
IsBelow r (Some n) = n < r

-- each visit among these tasks is of a lower rank than this
abbrev pub AreBelow : ℕ → List Task → Type 0
AreBelow r [] = Unit {0}
AreBelow r (task ∷ tasks) = IsBelow r (rank_of task) × AreBelow r tasks
