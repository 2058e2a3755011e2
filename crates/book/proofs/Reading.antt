-- The reading of a trace lays it out, and is the only one that does; and the slots that an enrol record spells.
use Rattle.std.proofs.Common.{◌≡◌, ℕ, List, [], ◌∷◌, length, take, drop, refl, arith}
use Rattle.trace.specs.Big.{big}
use Rattle.trace.specs.Layout.{Reading, Lays}
use Rattle.trace.proofs.Ways.{one_way}
use Rattle.book.specs.Reading.{reading}
use Rattle.book.specs.Book.{words}

pub reading_lays : (bytes : List ℕ) → Lays (reading bytes) bytes
unfolding reading
reading_lays bytes = (one_way bytes).lays

pub reading_only : (bytes : List ℕ) (R : Reading) → Lays R bytes → R ≡ reading bytes
unfolding reading
reading_only bytes R lays = (one_way bytes).only R lays

-- six bytes spell three slots
pub words_three : (bytes : List ℕ) → length bytes ≡ 6
    → words bytes ≡ big (take 2 bytes) ∷ (big (take 2 (drop 2 bytes)) ∷ (big (drop 4 bytes) ∷ []))
words_three [] e = absurd (omega arith)
words_three (a ∷ []) e = absurd (omega arith)
words_three (a ∷ (b ∷ [])) e = absurd (omega arith)
words_three (a ∷ (b ∷ (c ∷ []))) e = absurd (omega arith)
words_three (a ∷ (b ∷ (c ∷ (d ∷ [])))) e = absurd (omega arith)
words_three (a ∷ (b ∷ (c ∷ (d ∷ (f ∷ []))))) e = absurd (omega arith)
words_three (a ∷ (b ∷ (c ∷ (d ∷ (f ∷ (g ∷ [])))))) e = refl
words_three (a ∷ (b ∷ (c ∷ (d ∷ (f ∷ (g ∷ (h ∷ bytes))))))) e = absurd (omega arith)
