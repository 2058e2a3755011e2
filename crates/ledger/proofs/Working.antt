-- What becomes of the work area over a list of calls.
use Rattle.std.proofs.Common.{◌≡◌, Bool, true, false, ◌||◌, List, ℕ, [], ◌∷◌, ◌++◌, get_or, drop, sym, refl, ap, ◌∙◌, subst}
use Rattle.ledger.specs.Ledger.{Said, wired, added, settled, denied}
use Rattle.ledger.specs.Promise.{some_settled, Left, Worked}

-- one call more
some_push : (said : List Said) (x : Said) → some_settled (said ++ x ∷ []) ≡ some_settled said || some_settled (x ∷ [])
some_push [] x = refl
some_push (wired slot ∷ said) x = some_push said x
some_push (added w ∷ said) x = some_push said x
some_push (settled R ∷ said) x = refl
some_push (denied why ∷ said) x = some_push said x

pub worked_more : (said : List Said) (x : Said) (work mid left : List ℕ) → Worked said work mid → Worked (x ∷ []) mid left → Worked (said ++ x ∷ []) work left
worked_more said x work mid left before now =
    subst (λ b. Left b work left) (sym (some_push said x)) (at (some_settled said) (some_settled (x ∷ [])) before now)
  where
    at : (a b : Bool) → Left a work mid → Left b mid left → Left (a || b) work left
    at true true (z, k) (z', k') = (z', k' ∙ k)
    at true false (z, k) same = (λ i h. ap (λ l. get_or l i 0) same ∙ z i h, ap (drop 7168) same ∙ k)
    at false true same (z', k') = (z', k' ∙ ap (drop 7168) same)
    at false false same same' = same' ∙ same
