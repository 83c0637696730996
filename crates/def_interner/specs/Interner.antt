-- The tables with which a session begins.
use Rattle.std.specs.Prelude.{[]}
use Rattle.item_tree.specs.Names.{known_names}
use Rattle.def_interner.specs.declared.interner.Interner.{Interner}

-- the known names, and no location
abbrev pub first_tables : Interner
first_tables =
    record {
      names = known_names;
      functions = [];
      structs = [];
      unions = [];
      enums = [];
      consts = [];
      statics = [];
      traits = [];
      type_aliases = [];
      impls = [];
      uses = [];
      extern_crates = [];
      extern_blocks = [];
      macro_rules = [];
      macro2s = [];
      proc_macros = [];
      builtin_derive_impls = [];
    }
