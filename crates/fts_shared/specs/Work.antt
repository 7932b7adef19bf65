-- The work of a session: which lines of a script are its, and what they were told.
use Rattle.std.specs.Prelude.{◌≡◌, ℕ, List, map, slice_get, Option, Some, None}
use Rattle.fts_io.specs.Text.{Line, too_long}
use Rattle.fts_schema.specs.declared.reply.Reply.{Reply}
use Rattle.fts_script.specs.Group.{Share, share_of}
use Rattle.fts_shared.specs.declared.work.Work.{Work}

-- its session's number, and the places of its lines
abbrev pub work_share : Work → Share
work_share work = share_of work.group

abbrev pub work_replies : Work → List Reply
work_replies work = work.replies.items

-- a line that is there, or one that can't be read
abbrev pub or_none : Option Line → Line
or_none None = too_long
or_none (Some line) = line

-- the lines at its places
abbrev pub lines_at : List Line → List ℕ → List Line
lines_at lines places = map (λ place. or_none (slice_get lines place)) places

abbrev pub work_lines : List Line → Work → List Line
work_lines lines work = lines_at lines (work_share work).places

-- it is the work of the same session, at the same places
abbrev pub IsSameWork : Work → Work → Type 0
IsSameWork old new = new.group ≡ old.group

-- what contracts see of the work of sessions: their shares of the script, and what each was told
abbrev pub shares_in : List Work → List Share
shares_in works = map work_share works

abbrev pub replies_in : List Work → List (List Reply)
replies_in works = map work_replies works
