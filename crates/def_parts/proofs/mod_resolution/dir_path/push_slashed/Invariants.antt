use denote.Shadow.{shadow}
use denote.Text.{Utf8}
use Rattle.std.proofs.Common.{◌≡◌, ◌++◌, length}
use Rattle.std.specs.Prelude.{map, string_bytes}
use Rattle.def_readings.specs.Directories.{as_slash}
use Rattle.def_parts.proofs.mod_resolution.dir_path.push_slashed.Given as goal

-- what was pushed and what is left give the whole
abbrev pub invariant-parts : goal.invariant-parts
invariant-parts l = record {
  text : shadow (Utf8 l.left);
  whole : string_bytes l.path ++ map as_slash l.left ≡ string_bytes l.fn.path ++ map as_slash l.fn.text;
}

abbrev pub decreases-parts : goal.decreases-parts
decreases-parts l = length l.left
