-- Laws of sessions that grow.
use Rattle.std.proofs.Common.{refl, ◌∙◌}
use Rattle.def_interner.specs.Session.{Session, Grows, AddsLocations}

-- a session that stays has grown by nothing
pub grows_refl : (s : Session) → Grows s s
grows_refl s = record { text = λ n t at. at; item = λ k i loc at. at; macro_at = λ m loc at. at; derive_impl = λ i loc at. at }

-- growth after growth is growth
pub grows_trans : (a b c : Session) → Grows a b → Grows b c → Grows a c
grows_trans a b c first second =
    record {
      text = λ n t at. second.text n t (first.text n t at);
      item = λ k i loc at. second.item k i loc (first.item k i loc at);
      macro_at = λ m loc at. second.macro_at m loc (first.macro_at m loc at);
      derive_impl = λ i loc at. second.derive_impl i loc (first.derive_impl i loc at);
    }

-- to a session that stays no location was added
pub adds_refl : (s : Session) → AddsLocations s s
adds_refl s = record { text = refl; grows = grows_refl s }

-- locations after locations are locations
pub adds_trans : (a b c : Session) → AddsLocations a b → AddsLocations b c → AddsLocations a c
adds_trans a b c first second = record { text = second.text ∙ first.text; grows = grows_trans a b c first.grows second.grows }
