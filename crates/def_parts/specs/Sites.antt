-- Where items stand, and where the files of modules lie.
use Rattle.std.specs.Prelude.{Option}
use Rattle.def_ids.specs.declared.ids.ModuleId.{ModuleId}
use Rattle.def_ids.specs.Ids.{is_same_module}
use Rattle.def_parts.specs.declared.mod_dirs.ModDirs.{ModDirs}
use Rattle.def_parts.specs.declared.site.Site.{Site as SiteInCode}
use Rattle.def_readings.specs.Directories.{Directory}
use Rattle.def_rules.specs.State.{Site}
use Rattle.indexmap.specs.IndexMap.{get}

-- where items stand
abbrev pub site_of : SiteInCode → Site
site_of site = record { scope = site.module_id; container = site.container; tree = site.tree_id; depth = site.depth; directory = site.dir }

-- the directory that is stored for each module
abbrev pub directories_of : ModDirs → ModuleId → Option Directory
directories_of d = get is_same_module d.dirs
