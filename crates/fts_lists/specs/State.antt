-- The delete lists and the numbers of an index.
use Rattle.std.specs.Prelude.{◌≡◌, ℕ, ◌-◌, Bool, true, false, List, [], length, Option, None}
use Rattle.fts_lists.specs.declared.lists.DeleteList.{DeleteList}
use Rattle.fts_lists.specs.declared.lists.DeleteList.TheVariants.{Deleted, BeingDeleted, DeletedCache}
use Rattle.fts_lists.specs.Ids.{Held, without}

-- the three lists; through which commit, and up to which id, documents are flushed; whether a pass is open, and the
-- last word that it worked on
pub record State : Type 0 where
  pub deleted : Held
  pub being_deleted : Held
  pub deleted_cache : Held
  pub flushed : ℕ
  pub synced : ℕ
  pub is_open : Bool
  pub checkpoint : Option (List ℕ)

-- what is held in one of the lists
abbrev pub held : DeleteList → State → Held
held Deleted s = s.deleted
held BeingDeleted s = s.being_deleted
held DeletedCache s = s.deleted_cache

-- the ids of one of the lists, ascending
abbrev pub ids_of : DeleteList → State → List ℕ
ids_of list s = (held list s).ids

-- how many more ids one of the lists was given room for
abbrev pub room_of : DeleteList → State → ℕ
room_of list s = (held list s).room

-- with this held in one of the lists, and all else as it was
abbrev pub with_held : DeleteList → State → Held → State
with_held Deleted s h = record s { deleted = h }
with_held BeingDeleted s h = record s { being_deleted = h }
with_held DeletedCache s h = record s { deleted_cache = h }

-- nothing but one of the lists is changed
abbrev pub ChangesOnly : DeleteList → State → State → Type 0
ChangesOnly list s t = t ≡ with_held list s (held list t)

-- a pass was opened, over the ids of DELETED, within the room of BEING_DELETED
abbrev pub opened : State → State
opened s = record s {
  being_deleted = record { ids = s.deleted.ids; room = s.being_deleted.room - length s.deleted.ids };
  is_open = true;
  checkpoint = None;
}

-- the pass was closed: its ids left DELETED, and there are none of a pass
abbrev pub closed : State → State
closed s = record s {
  deleted = record { ids = without s.being_deleted.ids s.deleted.ids; room = s.deleted.room };
  being_deleted = record { ids = []; room = s.being_deleted.room };
  is_open = false;
  checkpoint = None;
}
