use Rattle.std.specs.Prelude.{◌≡◌, ℕ, ◌<◌, List, length, slice_index}

-- Each place has the place of its partner, which has it for a partner. What has none has its own.
abbrev pub ArePartners : List ℕ → Type 0
ArePartners partners =
    (k : ℕ) → k < length partners →
    (slice_index partners k < length partners) ×
    (slice_index partners (slice_index partners k) ≡ k)
