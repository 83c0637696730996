-- Calls that are written or wait for their macros, as the rules see them.
use Rattle.std.specs.Prelude.{◌≡◌, Bool, true, false, List, [], ◌∷◌, ◌++◌, map}
use Rattle.def_calls.specs.declared.directives.WrittenAttr.{WrittenAttr}
use Rattle.def_calls.specs.declared.directives.WrittenDerive.{WrittenDerive}
use Rattle.def_calls.specs.declared.directives.Expansion.{Expansion}
use Rattle.def_calls.specs.declared.directives.MacroDirective.{MacroDirective}
use Rattle.def_calls.specs.declared.directives.MacroDirectiveKind.{MacroDirectiveKind}
use Rattle.def_calls.specs.declared.directives.MacroDirectiveKind.TheVariants.{FnLike, Attr, Derive}
use Rattle.def_modules.specs.declared.map.MapData.{MapData}
use Rattle.def_modules.specs.Maps.{map_state}
use Rattle.def_rules.specs.declared.inner_calls.InnerCall.{InnerCall}
use Rattle.def_rules.specs.Directives.{Told, Turn, Stays, GivesCall, GivesDerive, Replaces, WalksItem, turn_effect}
use Rattle.def_rules.specs.State as rules
use Rattle.def_rules.specs.Waiting as waits
use Rattle.macro_calls.specs.Written.{written_of}

-- an attribute, with itself in the place of the reference
abbrev pub written_attr_of : WrittenAttr → waits.WrittenAttr
written_attr_of written = record { tree = written.tree_id; item = written.item; id = written.attr_id; attr = written.attr.now }

-- a path of a derive's list, with itself in the place of the reference
abbrev pub written_derive_of : WrittenDerive → waits.WrittenDerive
written_derive_of written = record { id = written.attr_id; pos = written.pos; path = written.path.now; ctxt = written.ctxt; call = written.call }

-- what waits for a macro
abbrev pub kind_of : MacroDirectiveKind → waits.MacroDirectiveKind
kind_of (FnLike call) = waits.FnLike (written_of call)
kind_of (Attr written) = waits.Attr (written_attr_of written)
kind_of (Derive written) = waits.Derive (written_derive_of written)

-- the same with its place and depth
abbrev pub macro_directive_of : MacroDirective → waits.MacroDirective
macro_directive_of d = record { scope = d.module_id; container = d.container; position = d.position; depth = d.depth; kind = kind_of d.kind }

-- what waits for macros
abbrev pub macros_in : List MacroDirective → List waits.MacroDirective
macros_in directives = map macro_directive_of directives

-- an expansion that is to be walked
abbrev pub expansion_shown : Expansion → waits.Expansion
expansion_shown e = record { scope = e.module_id; container = e.container; depth = e.depth; call = e.call; replaces = e.replaces }

-- the state with this map, and in which these wait
abbrev pub with_waiting : rules.State → MapData → List MacroDirective → List Expansion → rules.State
with_waiting s m directives expansions = record s { map = map_state m; macros = macros_in directives; expansions = map expansion_shown expansions }

-- the state in which these calls are to be recorded
abbrev pub with_inner : rules.State → List InnerCall → rules.State
with_inner s calls = record s { inner_calls = calls }

-- whether what was told leaves
abbrev pub leaves : Turn → Bool
leaves Stays = false
leaves (GivesCall call) = true
leaves (GivesDerive call) = true
leaves (Replaces call) = true
leaves (WalksItem derives written) = true

-- what waited first had its turn, in which this was told
pub record IsTurned (s : rules.State) (d : waits.MacroDirective) (given : Told) (t : rules.State) : Type 0 where
  pub others : List waits.MacroDirective
  pub stands : s.macros ≡ d ∷ others
  pub is : t ≡ (turn_effect given.state [] d others given.turn).state

-- one that waited left the others
pub record IsLeft (macros : List waits.MacroDirective) (d : waits.MacroDirective) (others : List waits.MacroDirective) : Type 0 where
  pub before : List waits.MacroDirective
  pub behind : List waits.MacroDirective
  pub stands : macros ≡ before ++ d ∷ behind
  pub left : others ≡ before ++ behind
