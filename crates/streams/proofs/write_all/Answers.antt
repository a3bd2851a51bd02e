-- What one more write took stands behind what was written before.
use Rattle.std.proofs.Common.{◌≡◌, ℕ, ◌+◌, ◌-◌, List, ◌++◌, length, take, drop, length-drop, sym, ap, ◌∙◌, subst, arith, rules, Option, ◌≤◌}
use Rattle.std.specs.Io.KnownBytes.{Appends}
use Rattle.std.proofs.KnownBytes.{Appends-trans}
use Rattle.std.proofs.lemmas.List.{take_all, take_rest, drop-drop}
use Rattle.std.proofs.Math.Seq.{take-add}
use Rattle.streams.proofs.write_all.Goals as goal

-- the rest behind the first n elements: what is behind m more, and what m more and the first n are
module _ (n : ℕ) (xs rest : List ℕ) (is : rest ≡ drop n xs) where
  behind : (m : ℕ) → take (length rest - m) (drop m rest) ≡ drop (n + m) xs
  behind m = take_rest rest m ∙ ap (drop m) is ∙ drop-drop m n xs

  joined : (m : ℕ) → take n xs ++ take m rest ≡ take (n + m) xs
  joined m = ap (λ l. take n xs ++ take m l) is ∙ sym (take-add n m xs)

  -- a write that took the first m elements of `sent`, which are those of the rest
  further : (m : ℕ) (sent : List ℕ) (old now new : Option (List ℕ)) → sent ≡ rest → m ≤ length sent → Appends old now (take n xs) → Appends now new (take m sent)
      → (m ≤ length rest) × Appends old new (take (n + m) xs)
  further m sent old now new same bound before more =
      (omega (arith, bound, ap length same), subst (Appends old new) (ap (λ l. take n xs ++ take m l) same ∙ joined m) (Appends-trans _ _ _ _ _ before more))

pub loop-rest-preserved-in-Ok : goal.loop-rest-preserved-in-Ok
loop-rest-preserved-in-Ok g c =
    let (n, split, is, appended) = c.loop-rest.invariant in
    let m = c.in-Ok.n in
    let rest = c.loop-rest.rest.now in
    let (bound, bytes) = further n _ rest is m _ _ _ _ (search (rules, take_all)) c.in-Ok.ensures.bound appended c.in-Ok.ensures.bytes in
    let fewer = length-drop m rest in
    (n + m, ap (λ l. n + m + length l) (take_rest rest m) ∙ omega (arith, bound), behind n _ _ is _, bytes)
