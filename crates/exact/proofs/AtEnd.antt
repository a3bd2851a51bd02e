-- End of data is met at N: a command that tells it leaves the drive at N of the partition that it looks at.
-- Assumes nothing.
use Prim.Native.Nat.{ℕ, zero, suc, ◌+◌, ◌≤◌}
use native.Mathlib.Omega.{arith}
use mathlib.Core.Path.{◌≡◌, refl, ap}
use mathlib.Core.Bool.{Bool, true, false, cond, ◌||◌}
use mathlib.Core.Option.{Option, none, some}
use mathlib.Core.List.{List, [], ◌∷◌}
use lib.Dec.{eqb, leb}
use lib.IntN.{ℤ, pos, negsuc, sub_ℕ}
use lib.ListN.{length, drop, get_elem?, length-drop}
use Rattle.objects.specs.Object.{Object, filemark, block}
use Rattle.objects.specs.Movement as M
use Rattle.objects.specs.Transfer.{Ended, whole, odd_length, at_filemark, at_end, halted, whole_before, Run, run_of}
use Rattle.sense.specs.declared.Sense.{Sense}
use Rattle.sense.specs.Sense.{blank_check}
use Rattle.record.specs.declared.drive.Drive.{Drive}
use Rattle.codes.specs.declared.operation.Operation.{Operation}
use Rattle.codes.specs.declared.operation.Operation.TheVariants.{TestUnitReady, Rewind, RequestSense, ReadBlockLimits, Read, Write, WriteFilemarks, Space, ModeSelect, Erase, ModeSense, LoadUnload, Locate, ReadPosition, Space16, Locate16, NotServed}
use Rattle.codes.specs.Fields.{fixed_of, transfer_of, space_code_of, space_count_of, space_count16_of, object_of}
use Rattle.commands.specs.Kinds.{locates}
use Rattle.commands.specs.Act.{Seen, Deed, good, checked, at, odd_met, hidden, read_run, read_variable, run_tells, reading, over_blocks, to_end, space_tells, movement, spacing, target_of, destination16, locate_tells, locating, act}
use Rattle.commands.specs.Call.{looks_at}
use Rattle.exact.proofs.Tells.{act_tells}
use Rattle.exact.proofs.Ruled.{silent, another, never_there}

-- ---- what went on until nothing was left crossed all that was ahead

walked_all : (c : M.Code) (n : ℕ) (xs : List Object) → (M.walk c n xs).why ≡ M.edge → (M.walk c n xs).crossed ≡ length xs
unfolding M.walk
walked_all c zero xs e = absurd (let z : ◌≡◌ {A = ℕ} 0 1 = cc in omega arith)
walked_all c (suc n) [] e = refl
walked_all M.blocks (suc n) (filemark ∷ xs) e = absurd (let z : ◌≡◌ {A = ℕ} 0 1 = cc in omega arith)
walked_all M.blocks (suc n) (block bs ∷ xs) e = ap suc (walked_all M.blocks n xs e)
walked_all M.filemarks (suc n) (filemark ∷ xs) e = ap suc (walked_all M.filemarks n xs e)
walked_all M.filemarks (suc n) (block bs ∷ xs) e = ap suc (walked_all M.filemarks (suc n) xs e)

ran_all : (b n : ℕ) (xs : List Object) → (run_of b n xs).why ≡ at_end → (run_of b n xs).crossed ≡ length xs
unfolding run_of
ran_all b zero xs e = absurd (let z : ◌≡◌ {A = ℕ} 0 1 = cc in omega arith)
ran_all b (suc n) [] e = refl
ran_all b (suc n) (filemark ∷ xs) e = absurd (let z : ◌≡◌ {A = ℕ} 0 1 = cc in omega arith)
ran_all b (suc n) (block bs ∷ xs) e = go (eqb (length bs) b) (run_of b n xs) e (ran_all b n xs)
  where
    go : (t : Bool) (r : Run) → (elim t as (λ x. Run) [ true ↦ whole_before bs r | false ↦ halted 1 odd_length ]).why ≡ at_end → (r.why ≡ at_end → r.crossed ≡ length xs)
        → (elim t as (λ x. Run) [ true ↦ whole_before bs r | false ↦ halted 1 odd_length ]).crossed ≡ suc (length xs)
    go true r e ih = ap suc (ih e)
    go false r e ih = absurd (let z : ◌≡◌ {A = ℕ} 0 1 = cc in omega arith)

nothing_there : (xs : List Object) (p : ℕ) → get_elem? xs p ≡ none → length xs ≤ p
nothing_there [] p e = omega arith
nothing_there (x ∷ xs) zero e = absurd (let z : ◌≡◌ {A = ℕ} 0 1 = cc in omega arith)
nothing_there (x ∷ xs) (suc p) e = omega (arith, nothing_there xs p e)

all_ahead : (p : ℕ) (xs : List Object) (k : ℕ) → p ≤ length xs → k ≡ length (drop p xs) → p + k ≡ length xs
all_ahead p xs k h e = omega (arith, e, length-drop p xs)

-- ---- by each command

-- e tells end of data, and stands at N of the partition k, of the objects xs
abbrev Stands : Deed → ℕ → List Object → Type 0
Stands e k xs = (s : Sense) → e.tells ≡ some s → s.key ≡ blank_check → (e.drive.current ≡ k) × (e.drive.position ≡ length xs)

module _ (d : Drive) (v : Seen) (h : d.position ≤ length v.objects) where
  run_stands : (n : ℕ) (r : Run) → (r.why ≡ at_end → r.crossed ≡ length (drop d.position v.objects)) → Stands (read_run d v n r) d.current v.objects
  unfolding run_tells
  run_stands n r a = go r.why refl
    where
      go : (w : Ended) → r.why ≡ w → (s : Sense) → run_tells v w (sub_ℕ n r.blocks) ≡ some s → s.key ≡ blank_check → (d.current ≡ d.current) × (d.position + r.crossed ≡ length v.objects)
      go whole q s e k = absurd (silent s e k)
      go odd_length q s e k = absurd (another _ _ _ _ _ _ _ _ (λ z. omega arith) s e k)
      go at_filemark q s e k = absurd (another _ _ _ _ _ _ _ _ (λ z. omega arith) s e k)
      go at_end q s e k = (refl, all_ahead d.position v.objects r.crossed h (a q))

  variable_stands : (cmd : List ℕ) (x : Option Object) → get_elem? v.objects d.position ≡ x → Stands (read_variable d cmd v x) d.current v.objects
  unfolding read_variable
  variable_stands cmd none q s e k = (refl, omega (arith, nothing_there v.objects d.position q))
  variable_stands cmd (some filemark) q s e k = absurd (another _ _ _ _ _ _ _ _ (λ z. omega arith) s e k)
  variable_stands cmd (some (block bs)) q s e k = go (eqb (length bs) (transfer_of cmd) || hidden d cmd (length bs)) s e k
    where
      there : Drive
      there = at d (suc d.position)

      go : (t : Bool) (s : Sense) → (cond t (good there) (checked there (odd_met (sub_ℕ (transfer_of cmd) (length bs))))).tells ≡ some s → s.key ≡ blank_check
          → ((cond t (good there) (checked there (odd_met (sub_ℕ (transfer_of cmd) (length bs))))).drive.current ≡ d.current)
          × ((cond t (good there) (checked there (odd_met (sub_ℕ (transfer_of cmd) (length bs))))).drive.position ≡ length v.objects)
      go true s e k = absurd (silent s e k)
      go false s e k = absurd (another _ _ _ _ _ _ _ _ (λ z. omega arith) s e k)

  read_stands : (cmd : List ℕ) → Stands (reading d cmd v) d.current v.objects
  unfolding reading
  read_stands cmd = go (eqb (transfer_of cmd) 0) (fixed_of cmd)
    where
      r : Run
      r = run_of d.block_length (transfer_of cmd) (drop d.position v.objects)

      go : (z f : Bool) → Stands (cond z (good d) (cond f (read_run d v (transfer_of cmd) r) (read_variable d cmd v (get_elem? v.objects d.position)))) d.current v.objects
      go true f = λ s e k. absurd (silent s e k)
      go false true = run_stands (transfer_of cmd) r (ran_all d.block_length (transfer_of cmd) (drop d.position v.objects))
      go false false = variable_stands cmd (get_elem? v.objects d.position) refl

  space_stands : (code : ℕ) (k : ℤ) → Stands (spacing d code k v) d.current v.objects
  unfolding spacing movement space_tells M.to_end_of_data M.space M.ahead
  space_stands code k = go (eqb code to_end) (cond (eqb code over_blocks) M.blocks M.filemarks) k
    where
      -- the movement m, ended for w
      ended : M.Move → M.Why → M.Move
      ended m w = record { to = m.to; moved = m.moved; why = w; distance = m.distance }

      Moved : ℤ → M.Move → Type 0
      Moved k m = (s : Sense) → space_tells v k m ≡ some s → s.key ≡ blank_check → (d.current ≡ d.current) × (m.to ≡ length v.objects)

      on : (m : M.Move) (n : ℕ) (w : M.Why) → (w ≡ M.edge → m.to ≡ length v.objects) → Moved (pos n) (ended m w)
      on m n M.done a s e k = absurd (silent s e k)
      on m n M.marked a s e k = absurd (another _ _ _ _ _ _ _ _ (λ z. omega arith) s e k)
      on m n M.edge a s e k = (refl, a refl)

      back : (m : M.Move) (n : ℕ) (w : M.Why) → Moved (negsuc n) (ended m w)
      back m n M.done s e k = absurd (silent s e k)
      back m n M.marked s e k = absurd (another _ _ _ _ _ _ _ _ (λ z. omega arith) s e k)
      back m n M.edge s e k = absurd (another _ _ _ _ _ _ _ _ (λ z. omega arith) s e k)

      go : (t : Bool) (c : M.Code) (k : ℤ) → Moved k (cond t (M.to_end_of_data d.position v.objects) (M.space c k d.position v.objects))
      go true c k = λ s e q. absurd (silent s e q)
      go false c (pos n) = on (M.space c (pos n) d.position v.objects) n (M.walk c n (drop d.position v.objects)).why (λ q. all_ahead d.position v.objects _ h (walked_all c n (drop d.position v.objects) q))
      go false c (negsuc n) = back (M.space c (negsuc n) d.position v.objects) n (M.space c (negsuc n) d.position v.objects).why

-- LOCATE stands there from wherever it comes; the others from a position that is there
module _ (d : Drive) (cmd sent : List ℕ) (v : Seen) where
  locate_stands : (k : ℕ) (t : M.Destination) → Stands (locating d k t v) k v.objects
  unfolding locating locate_tells M.locate M.to_object M.to_file M.to_end_of_data
  locate_stands k t = go t (cond (eqb k d.current) d.position 0)
    where
      Moved : M.Why → ℕ → Type 0
      Moved w n = (s : Sense) → locate_tells v w ≡ some s → s.key ≡ blank_check → (k ≡ k) × (n ≡ length v.objects)

      by : (w : M.Why) (n : ℕ) → (w ≡ M.edge → n ≡ length v.objects) → Moved w n
      by M.done n a s e z = absurd (silent s e z)
      by M.marked n a s e z = absurd (silent s e z)
      by M.edge n a s e z = (refl, a refl)

      object : (t : Bool) (p n : ℕ) → Moved (cond t (M.straight p n M.done) (M.straight p (length v.objects) M.edge)).why (cond t (M.straight p n M.done) (M.straight p (length v.objects) M.edge)).to
      object true p n = λ s e z. absurd (silent s e z)
      object false p n = λ s e z. (refl, refl)

      go : (t : M.Destination) (p : ℕ) → Moved (M.locate t p v.objects).why (M.locate t p v.objects).to
      go (M.object n) p = object (leb n (length v.objects)) p n
      go (M.file f) p = by (M.walk M.filemarks f v.objects).why (M.walk M.filemarks f v.objects).crossed (walked_all M.filemarks f v.objects)
      go M.end_of_data p = λ s e z. absurd (silent s e z)

  pub act_stands : (o : Operation) → (locates o ≡ false → d.position ≤ length v.objects) → Stands (act o d cmd sent v) (looks_at o d cmd) v.objects
  unfolding act looks_at
  act_stands TestUnitReady h = λ s e k. absurd (silent s e k)
  act_stands Rewind h = λ s e k. absurd (silent s e k)
  act_stands RequestSense h = λ s e k. absurd (silent s e k)
  act_stands ReadBlockLimits h = λ s e k. absurd (silent s e k)
  act_stands Read h = read_stands d v (h refl) cmd
  act_stands Write h = λ s e k. absurd (never_there Write refl _ (act_tells d cmd sent v Write) s e k)
  act_stands WriteFilemarks h = λ s e k. absurd (never_there WriteFilemarks refl _ (act_tells d cmd sent v WriteFilemarks) s e k)
  act_stands Space h = space_stands d v (h refl) (space_code_of cmd) (space_count_of cmd)
  act_stands ModeSelect h = λ s e k. absurd (never_there ModeSelect refl _ (act_tells d cmd sent v ModeSelect) s e k)
  act_stands Erase h = λ s e k. absurd (silent s e k)
  act_stands ModeSense h = λ s e k. absurd (silent s e k)
  act_stands LoadUnload h = λ s e k. absurd (silent s e k)
  act_stands Locate h = locate_stands (target_of Locate d cmd) (M.object (object_of cmd))
  act_stands ReadPosition h = λ s e k. absurd (silent s e k)
  act_stands Space16 h = space_stands d v (h refl) (space_code_of cmd) (space_count16_of cmd)
  act_stands Locate16 h = locate_stands (target_of Locate16 d cmd) (destination16 cmd)
  act_stands NotServed h = λ s e k. absurd (silent s e k)
