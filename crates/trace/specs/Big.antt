-- The number that bytes spell, the first byte weighing most.
use Rattle.std.specs.Prelude.{ℕ, ◌+◌, ◌*◌, ◌^◌, List, [], ◌∷◌, length}

abbrev pub big : List ℕ → ℕ
big [] = 0
big (byte ∷ bytes) = byte * 256 ^ length bytes + big bytes
