-- What a replay is in direct calls: it makes the calls that the records of its trace stand for, in their order, up to the
-- first that is denied. So a trace does nothing that could not be asked for call by call.
use Rattle.std.specs.Prelude.{◌≡◌, ℕ, ◌<◌, ◌≤◌, Bool, true, false, ◌&&◌, List, [], ◌∷◌, length, take, drop}
use Rattle.trace.specs.Big.{big}
use Rattle.trace.specs.Layout.{Entry, enrol, amount, remark, Reading}
use Rattle.book.specs.Reading.{reading}
use Rattle.book.specs.Book.{Asked, to_enrol, to_record, to_replay, Said, replayed, stopped, Book}
use Rattle.book.specs.Book.{accepted, words, ends, answer, after, answers, closing}

-- the calls that records stand for; a remark stands for none
abbrev pub calls_of : List Entry → List Asked
calls_of [] = []
calls_of (enrol id slots ∷ es) = to_enrol (big id) (words slots) ∷ calls_of es
calls_of (amount id n ∷ es) = to_record (big id) (big n) ∷ calls_of es
calls_of (remark text ∷ es) = calls_of es

abbrev pub all_accepted : List Said → Bool
all_accepted [] = true
all_accepted (r ∷ said) = accepted r && all_accepted said

-- of a trace that is read as R the replay takes k records
pub record Replays (B : Book) (bytes : List ℕ) (R : Reading) (k : ℕ) : Type 0 where
  pub few : k ≤ length R.entries
  -- they are accepted as calls, and leave the book as the replay does
  pub taken : all_accepted (answers B (calls_of (take k R.entries))) ≡ true
  pub book : after B (to_replay bytes) ≡ closing B (calls_of (take k R.entries))
  -- the next record, if there is one, is then denied as a call
  pub next : k < length R.entries
      → all_accepted (answers (after B (to_replay bytes)) (calls_of (take 1 (drop k R.entries)))) ≡ false
  -- it has not stopped where that was all and the trace ends as it should
  pub whole : k ≡ length R.entries → ends R.ending ≡ true → answer B (to_replay bytes) ≡ replayed k
  pub declined : k < length R.entries → answer B (to_replay bytes) ≡ stopped k
  pub fault : ends R.ending ≡ false → answer B (to_replay bytes) ≡ stopped k

abbrev pub ReplaysAsCalls : Type 0
ReplaysAsCalls = (B : Book) (bytes : List ℕ) → (k : ℕ) × Replays B bytes (reading bytes) k
