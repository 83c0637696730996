-- The walk: what is to be visited, and that it gets less.
use Rattle.std.proofs.Common.{◌≡◌, ◌<◌, ◌+◌, suc, List, [], ◌∷◌, ◌++◌, length, drop, Some, slice_get, arith, refl, sym, ap, ◌∙◌, append_assoc, append-nil, add-one}
use Rattle.std.proofs.lemmas.List.{length_push}
use Rattle.std.proofs.lemmas.List.Sums.{sum_by-append, sum_by-cons}
use Rattle.std.proofs.lemmas.Option.{slice_get_within, get_or_from_slice_get}
use Rattle.std.proofs.Math.Seq.{drop-cons}
use Rattle.tree_ids.specs.declared.ids.ModItemId.{ModItemId}
use Rattle.def_items.specs.declared.lists.Frame.{Frame}
use Rattle.def_items.specs.Parts.{list_site}
use Rattle.def_collector.specs.Walk.{agenda_of, frame_tasks, walk_measure}
use Rattle.def_items.specs.Lists.{behind, listed, left_of}
use Rattle.def_laws.specs.Work.{task_work, work}
use Rattle.def_rules.specs.Items.{visits}
use Rattle.def_rules.specs.State.{Visit}

-- the last frame comes first
pub agenda_of-push : (frames : List Frame) (frame : Frame) → agenda_of (frames ++ frame ∷ []) ≡ frame_tasks frame ++ agenda_of frames
unfolding agenda_of
agenda_of-push [] frame = sym (append-nil (frame_tasks frame))
agenda_of-push (below ∷ frames) frame =
    ap (λ agenda. agenda ++ frame_tasks below) (agenda_of-push frames frame) ∙ append_assoc (frame_tasks frame) (agenda_of frames) (frame_tasks below)

pub agenda_of-none : agenda_of [] ≡ []
unfolding agenda_of
agenda_of-none = refl

-- one frame is what is left of its list
pub agenda_of-one : (frame : Frame) → agenda_of (frame ∷ []) ≡ frame_tasks frame
unfolding agenda_of
agenda_of-one frame = refl

-- the frame once its next item was taken
abbrev pub after_turn : Frame → Frame
after_turn frame = record frame { next = frame.next + 1 }

-- the next item, and those after it
pub left_of-cons : (frame : Frame) (id : ModItemId) → Some id ≡ slice_get (listed frame) frame.next → left_of frame ≡ id ∷ left_of (after_turn frame)
left_of-cons frame id found =
    let within : frame.next < length (listed frame) = slice_get_within (listed frame) frame.next id (sym found) in
    drop-cons (listed frame) frame.next id within
    ∙ ap (λ x. x ∷ drop (suc frame.next) (listed frame)) (get_or_from_slice_get (listed frame) frame.next id id (sym found))
    ∙ ap (λ n. id ∷ drop n (listed frame)) (sym (add-one frame.next))

-- the next item is visited first
pub frame_tasks-next : (frame : Frame) (id : ModItemId) → Some id ≡ slice_get (listed frame) frame.next → frame_tasks frame ≡ Visit (list_site frame.list) id ∷ frame_tasks (after_turn frame)
frame_tasks-next frame id found = ap (λ left. visits (list_site frame.list) left ++ behind frame.list.site.module_id frame.list.into) (left_of-cons frame id found)

-- one frame more
pub measure_pushed : (frames : List Frame) (frame : Frame) → walk_measure (frames ++ frame ∷ []) ≡ suc (work (frame_tasks frame) + walk_measure frames)
measure_pushed frames frame =
    let parts : work (agenda_of (frames ++ frame ∷ [])) ≡ work (frame_tasks frame) + work (agenda_of frames) =
    ap work (agenda_of-push frames frame) ∙ sum_by-append task_work (frame_tasks frame) (agenda_of frames) in
    let long = length_push frames frame in
    omega (arith, parts, long)

-- one item less
pub work_next : (frame : Frame) (id : ModItemId) → Some id ≡ slice_get (listed frame) frame.next
    → work (frame_tasks frame) ≡ task_work (Visit (list_site frame.list) id) + work (frame_tasks (after_turn frame))
work_next frame id found = ap work (frame_tasks-next frame id found) ∙ sum_by-cons task_work (Visit (list_site frame.list) id) (frame_tasks (after_turn frame))
