-- What the code of a resolution reads, as its definitions take it.
use Rattle.def_interner.specs.Session.{session_of}
use Rattle.def_bindings.specs.Content.{Content}
use Rattle.def_bindings.specs.declared.visibility.Visibility.{Visibility}
use Rattle.def_sources.specs.declared.world.Asking.{Asking}
use Rattle.def_sources.specs.declared.world.World.{World as LentWorld}
use Rattle.def_modules.specs.declared.map.MapData.{MapData}
use Rattle.def_modules.specs.Locals.{local_view}
use Rattle.def_modules.specs.Maps.{facts_of}
use Rattle.def_modules.specs.MapView.{MapView}
use Rattle.def_oracle.specs.Oracle.{Oracle}
use Rattle.def_sources.specs.Sources.{World, Question, question_of, world_of}

-- a map by its data and the content of its table
abbrev pub map_with : MapData → Content Visibility → MapView
map_with all content = record { facts = facts_of all; content = content }

-- a world that is lent, with what its database answers and what its table contains
abbrev pub world_lent : {D T : Type 0} → (D → Oracle) → (T → Content Visibility) → LentWorld D T → World
world_lent oracle content w =
    world_of (oracle w.db.now) (session_of w.session.now) (map_with w.map.now (content w.table.now)) (local_view w.local.now)

-- the question that is asked
abbrev pub question_in : {D T : Type 0} → (D → Oracle) → Asking D T → Question
question_in oracle a = question_of (oracle a.world.db.now) (session_of a.world.session.now) (local_view a.world.local.now) a.asked

-- the map that is asked
abbrev pub map_in : {D T : Type 0} → (T → Content Visibility) → Asking D T → MapView
map_in content a = map_with a.world.map.now (content a.world.table.now)
