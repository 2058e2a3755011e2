-- A list of calls, one call more at a time.
use Rattle.std.proofs.Common.{◌≡◌, List, [], ◌∷◌, ◌++◌, refl, ap}
use Rattle.book.specs.Book.{Asked, Book, answer, after, answers, closing}

pub answers_push : (B : Book) (calls : List Asked) (a : Asked)
    → answers B (calls ++ a ∷ []) ≡ answers B calls ++ answer (closing B calls) a ∷ []
answers_push B [] a = refl
answers_push B (c ∷ calls) a = ap (λ l. answer B c ∷ l) (answers_push (after B c) calls a)

pub closing_push : (B : Book) (calls : List Asked) (a : Asked) → closing B (calls ++ a ∷ []) ≡ after (closing B calls) a
closing_push B [] a = refl
closing_push B (c ∷ calls) a = closing_push (after B c) calls a
