-- How far a call went (Q-10): every call's answer says what the definition says of its fourth number; and every house service answers 0 there.
-- Assumes nothing.
use Prim.Native.Nat.{ℕ, zero, suc, ◌+◌, ◌≤◌, zero-le}
use native.Mathlib.Omega.{arith}
use mathlib.Core.Path.{◌≡◌, refl, sym, ap, ◌∙◌}
use mathlib.Core.Logic.{◌≢◌, ◌⊎◌, inl, inr}
use mathlib.Core.Bool.{Bool, true, false, cond}
use mathlib.Core.Option.{Option, none, some}
use mathlib.Core.List.{List, [], ◌∷◌}
use borrow.Author.Tests.{ne_eqb}
use lib.Dec.{eqb}
use lib.IntN.{ℤ, pos, negsuc, nat_abs}
use lib.ListN.{length, drop}
use Rattle.answers.specs.declared.Answer.{Answer}
use Rattle.answers.specs.Answers.{first}
use Rattle.answers.proofs.Fields.{ByNumber}
use Rattle.objects.specs.Object.{Object, filemark, block}
use Rattle.objects.specs.Movement as M
use Rattle.objects.proofs.Residue.{size_back_lem}
use Rattle.objects.proofs.Walk.{counted_crossed, still}
use Rattle.image.proofs.Objects.{length_objects}
use Rattle.record.specs.declared.drive.Drive.{Drive}
use Rattle.record.specs.Record.{decode_of, with_sense}
use Rattle.codes.specs.declared.operation.Operation.{Operation}
use Rattle.codes.specs.Codes.{code_of, operation_of}
use Rattle.codes.specs.Fields.{space_code_of}
use Rattle.house.specs.Mount.{fresh_call, mount_call}
use Rattle.house.specs.Images.{blank_call, protect_call}
use Rattle.house.proofs.Answered.{fresh_answers, mount_answers, blank_answers, protect_answers}
use Rattle.commands.specs.Stop.{Stop}
use Rattle.commands.specs.Act.{over_blocks, to_end, movement, spacing, act}
use Rattle.commands.specs.Call.{Lent, Result, partition, seen_of, seen, command_call, command_tests}
use Rattle.commands.specs.Conditions.{Acts}
use Rattle.commands.proofs.Exact.{acts_exactly}
use Rattle.commands.proofs.Faultless.{back, place_small}
use Rattle.commands.proofs.Crossed.{act_crosses, went_by, stopped_crosses, acted_crosses, space_stands, crossed_most}
use Rattle.history.proofs.Ended.{Finished, by_number, by_sense, by_act, ended}
use Rattle.exact.specs.Residues.{count_of, place_after}
use Rattle.exact.specs.Crossed.{Spaces, movement_of, apart, uncounted_mark, Crossed}
use Rattle.exact.proofs.Residues.{position_after}

-- ---- of a movement: what is counted beside what is crossed

walk_blocks : (n : ℕ) (xs : List Object) → (M.walk M.blocks n xs).crossed ≡ (M.walk M.blocks n xs).counted + uncounted_mark (M.walk M.blocks n xs).why
unfolding M.walk
walk_blocks zero xs = refl
walk_blocks (suc n) [] = refl
walk_blocks (suc n) (filemark ∷ xs) = refl
walk_blocks (suc n) (block bs ∷ xs) = let h = walk_blocks n xs in omega arith

space_counted : (c : M.Code) (k : ℤ) (p : ℕ) (xs : List Object) → nat_abs (M.space c k p xs).moved ≤ (M.space c k p xs).distance
unfolding M.space M.ahead M.astern
space_counted c (pos n) p xs = counted_crossed c n (drop p xs)
space_counted c (negsuc n) p xs = rw (size_back_lem (M.walk c (suc n) (M.before p xs)).counted) (counted_crossed c (suc n) (M.before p xs))

space_blocks : (k : ℤ) (p : ℕ) (xs : List Object) → (M.space M.blocks k p xs).distance ≡ nat_abs (M.space M.blocks k p xs).moved + uncounted_mark (M.space M.blocks k p xs).why
unfolding M.space M.ahead M.astern
space_blocks (pos n) p xs = walk_blocks n (drop p xs)
space_blocks (negsuc n) p xs = rw (size_back_lem (M.walk M.blocks (suc n) (M.before p xs)).counted) (walk_blocks (suc n) (M.before p xs))

module _ (code : ℕ) (k : ℤ) (p : ℕ) (xs : List Object) where
  by_counted : nat_abs (movement code k p xs).moved ≤ (movement code k p xs).distance
  unfolding movement M.to_end_of_data
  by_counted = go (eqb code to_end)
    where
      go : (t : Bool) → nat_abs (cond t (M.to_end_of_data p xs) (M.space (cond (eqb code over_blocks) M.blocks M.filemarks) k p xs)).moved ≤ (cond t (M.to_end_of_data p xs) (M.space (cond (eqb code over_blocks) M.blocks M.filemarks) k p xs)).distance
      go true = zero-le
      go false = space_counted (cond (eqb code over_blocks) M.blocks M.filemarks) k p xs

  by_blocks : code ≡ over_blocks → (movement code k p xs).distance ≡ nat_abs (movement code k p xs).moved + uncounted_mark (movement code k p xs).why
  unfolding movement
  by_blocks e = rw e (space_blocks k p xs)

  by_none : k ≡ pos 0 → (code ≡ to_end → ⊥) → (movement code k p xs).distance ≡ 0
  unfolding movement
  by_none z n = rw (z, ne_eqb code to_end n) (ap (λ (m : M.Move). m.distance) (still (cond (eqb code over_blocks) M.blocks M.filemarks) p xs))

-- ---- of a call

module _ (rec : List ℕ) (x : Lent) where
  abbrev d : Drive
  d = decode_of rec

  abbrev o : Operation
  o = operation_of (code_of x.cmd)

  abbrev R : Result
  R = command_call rec x

  by_movement : Spaces x.cmd → first (command_tests rec x) ≡ none → R.answer.crossed ≡ (movement_of rec x).distance
  unfolding act spacing
  by_movement s e = acted_crosses rec x e ∙ go s
    where
      go : Spaces x.cmd → (act o d x.cmd x.sent (seen o d x)).crossed ≡ (movement_of rec x).distance
      go (inl q) = rw q refl
      go (inr q) = rw q refl

  -- where it acts, the new position is where the movement ends
  there : Spaces x.cmd → Acts rec x → (decode_of R.rec).position ≡ (movement_of rec x).to
  unfolding place_after
  there (inl q) a = position_after rec x a (rw q refl) ∙ rw q refl
  there (inr q) a = position_after rec x a (rw q refl) ∙ rw q refl

  in_place : Spaces x.cmd → first (command_tests rec x) ≡ none → (decode_of rec).position ≤ length (seen o d x).objects
  unfolding seen_of
  in_place s e = let w = space_stands rec x s e in rw (w.sees, length_objects (partition d.current x.part0 x.part1)) w.place.place

  far : Spaces x.cmd → R.answer.crossed ≡ apart (decode_of rec).position (decode_of R.rec).position
  unfolding with_sense
  far s = go (ended rec x.cmd x.part0 x.part1 x.sent x.received)
    where
      stays : (t : Stop) → first (command_tests rec x) ≡ some t → (decode_of R.rec).position ≡ (decode_of rec).position → R.answer.crossed ≡ apart (decode_of rec).position (decode_of R.rec).position
      stays t f e = let z = stopped_crosses rec x t f in omega arith

      go : Finished rec x.cmd x.part0 x.part1 x.sent x.received → R.answer.crossed ≡ apart (decode_of rec).position (decode_of R.rec).position
      go (by_number n h f e) = stays _ f (ap (λ (r : Result). (decode_of r.rec).position) e)
      go (by_sense t f g b w p l e) = stays t f (ap (λ (r : Result). (decode_of r.rec).position) e ∙ ap (λ (y : Drive). y.position) (back g b (place_small g x.part0 x.part1 w.cart) w.small l) ∙ p)
      go (by_act f w q e) =
          let m = went_by (space_code_of x.cmd) (count_of o x.cmd) d.position (seen o d x).objects (in_place s f) in
          by_movement s f ∙ rw (there s ((acts_exactly rec x).0 f)) (sym m.apart)

  none_crossed : ¬ Spaces x.cmd → R.answer.crossed ≡ 0
  none_crossed n = go (first (command_tests rec x)) refl
    where
      acts : (Spaces x.cmd) ⊎ ((act o d x.cmd x.sent (seen o d x)).crossed ≡ 0) → first (command_tests rec x) ≡ none → R.answer.crossed ≡ 0
      acts (inl s) e = absurd (n s)
      acts (inr z) e = acted_crosses rec x e ∙ z

      go : (t : Option Stop) → first (command_tests rec x) ≡ t → R.answer.crossed ≡ 0
      go (some s) e = stopped_crosses rec x s e
      go none e = acts (act_crosses o d x.cmd x.sent (seen o d x)) e

  not_reached : ¬ Acts rec x → R.answer.crossed ≡ 0
  not_reached n = go (first (command_tests rec x)) refl
    where
      go : (t : Option Stop) → first (command_tests rec x) ≡ t → R.answer.crossed ≡ 0
      go (some s) e = stopped_crosses rec x s e
      go none e = absurd (n ((acts_exactly rec x).0 e))

  still_there : Spaces x.cmd → count_of o x.cmd ≡ pos 0 → space_code_of x.cmd ≢ to_end → R.answer.crossed ≡ 0
  still_there s z n = go (first (command_tests rec x)) refl
    where
      go : (t : Option Stop) → first (command_tests rec x) ≡ t → R.answer.crossed ≡ 0
      go (some t) e = stopped_crosses rec x t e
      go none e = by_movement s e ∙ by_none (space_code_of x.cmd) (count_of o x.cmd) d.position (seen o d x).objects z n

  pub crossed_objects : Crossed rec x (command_call rec x)
  crossed_objects = record {
    moves = λ s a. by_movement s ((acts_exactly rec x).1 a);
    distance = far;
    most = crossed_most rec x;
    zero = still_there;
    others = none_crossed;
    stopped = not_reached;
    counted = λ s a. rw (by_movement s ((acts_exactly rec x).1 a)) (by_counted (space_code_of x.cmd) (count_of o x.cmd) d.position (seen o d x).objects);
    over_blocks_lem = λ s a e. by_movement s ((acts_exactly rec x).1 a) ∙ by_blocks (space_code_of x.cmd) (count_of o x.cmd) d.position (seen o d x).objects e;
  }

-- ---- of a house service

number_crosses : (a : Answer) → ByNumber a → a.crossed ≡ 0
number_crosses a b = ap (λ (y : Answer). y.crossed) b.is

pub fresh_crosses : (rec : List ℕ) → (fresh_call rec).answer.crossed ≡ 0
fresh_crosses rec = number_crosses _ (fresh_answers rec)

pub mount_crosses : (rec p0 p1 : List ℕ) → (mount_call rec p0 p1).answer.crossed ≡ 0
mount_crosses rec p0 p1 = number_crosses _ (mount_answers rec p0 p1)

pub blank_crosses : (s : List ℕ) → (blank_call s).answer.crossed ≡ 0
blank_crosses s = number_crosses _ (blank_answers s)

pub protect_crosses : (on : Bool) (s : List ℕ) → (protect_call on s).answer.crossed ≡ 0
protect_crosses on s = number_crosses _ (protect_answers on s)
