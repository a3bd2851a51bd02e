-- What the events of a step are, of the objects alone: each has room on a tape as long as the one that the step saw; and a step that causes any is of a
-- loaded drive, on its current partition. So whatever lays objects out by the same U can take them.
-- Assumes nothing.
use Prim.Native.Nat.{ℕ, suc, ◌+◌, ◌-◌, ◌*◌, ◌≤◌}
use native.Mathlib.Omega.{arith}
use mathlib.Core.Path.{◌≡◌, refl, sym, ap, ◌∙◌, subst}
use mathlib.Core.Bool.{Bool, true, false, cond, ◌&&◌}
use mathlib.Core.Option.{Option, none, some}
use mathlib.Core.List.{List, [], ◌∷◌}
use borrow.Author.Tests.{eqb-false, leb-true}
use lib.Dec.{eqb}
use lib.ListN.{length, take, length-append}
use lib.Seq.{length-take-le, take_all}
use Rattle.objects.specs.Object.{Object, block, data_of, bytes_in, largest_block}
use Rattle.objects.specs.Room.{trailer_length, entry_length, room_of, fits_in}
use Rattle.objects.specs.Events.{Event, put, cut, happen, happens}
use Rattle.objects.proofs.Count.{bytes_snoc}
use Rattle.changes.specs.Holdable.{Holdable, AllHoldable}
use Rattle.record.specs.declared.drive.Drive.{Drive}
use Rattle.codes.specs.declared.operation.Operation.{Operation}
use Rattle.codes.specs.declared.operation.Operation.TheVariants.{Write, WriteFilemarks}
use Rattle.codes.specs.Codes.{code_of, operation_of}
use Rattle.codes.specs.Fields.{fixed_of, transfer_of}
use Rattle.objects.specs.Transfer.{blocks_of, fitting, put_from}
use Rattle.objects.proofs.Fitting.{fitting_more, fitting_none}
use Rattle.changes.proofs.Down.{marks_kept, blocks_kept}
use Rattle.commands.specs.Stop.{Stop, refuse, attend, fault}
use Rattle.answers.specs.Answers.{first}
use Rattle.commands.specs.Kinds.{needs_cartridge}
use Rattle.commands.specs.Act.{Seen, offered, goes_down, events_of}
use Rattle.commands.specs.Tests.{tests, taken, field_error}
use Rattle.commands.specs.Step.{stopped, acted, unless, step}
use Rattle.commands.specs.Call.{looks_at}
use Rattle.commands.proofs.Passed.{Passed, passed}
use Rattle.commands.proofs.Wrong.{fixed_fields, one_field}
use Rattle.commands.proofs.Classes.{Class, blocks, filemarks, erasing, quiet, classify, no_erase, no_events}

-- ---- an event on the objects xs that has room in l bytes

abbrev pub Goes : ℕ → Event → List Object → Type 0
Goes l (put n o) xs = (n ≤ length xs) × Holdable o × (entry_length * n + bytes_in (take n xs) + entry_length + length (data_of o) ≤ l)
Goes l (cut n) xs = n ≤ length xs

unfoldable pub GoAll : ℕ → List Event → List Object → Type 0
GoAll l [] xs = Unit {0}
GoAll l (e ∷ es) xs = Goes l e xs × GoAll l es (happen e xs)

-- ---- the objects that fit go down one by one

module _ (p : ℕ) (o : Object) (xs : List Object) (h : p ≤ length xs) where
  next_length : length (happen (put p o) xs) ≡ suc p
  unfolding happen
  next_length = length-append (take p xs) (o ∷ []) ∙ omega (arith, length-take-le p xs h)

  next_bytes : bytes_in (take (suc p) (happen (put p o) xs)) ≡ bytes_in (take p xs) + length (data_of o)
  next_bytes = ap bytes_in (take_all (suc p) (happen (put p o) xs) (omega (arith, next_length))) ∙ (unfold happen in bytes_snoc (take p xs) o)

-- behind the last of them nothing stands
pub puts_reach : (p : ℕ) (os xs : List Object) → p ≤ length xs → p + length os ≤ length (happens (put_from p os) xs)
unfolding happens put_from
puts_reach p [] xs h = omega arith
puts_reach p (o ∷ os) xs h = omega (arith, puts_reach (suc p) os (happen (put p o) xs) (omega (arith, next_length p o xs h)))

fit_goes : (l : ℕ) (os : List Object) (p : ℕ) (xs : List Object) → p ≤ length xs → AllHoldable os → GoAll (l - trailer_length) (put_from p (fitting l p (bytes_in (take p xs)) os)) xs
unfolding AllHoldable GoAll put_from fitting
fit_goes l [] p xs h a = tt
fit_goes l (o ∷ os) p xs h a = go (fits_in (room_of l p (bytes_in (take p xs))) (length (data_of o))) refl (fit_goes l os (suc p) (happen (put p o) xs))
  where
    go : (t : Bool) → fits_in (room_of l p (bytes_in (take p xs))) (length (data_of o)) ≡ t
        → (suc p ≤ length (happen (put p o) xs) → AllHoldable os → GoAll (l - trailer_length) (put_from (suc p) (fitting l (suc p) (bytes_in (take (suc p) (happen (put p o) xs))) os)) (happen (put p o) xs))
        → GoAll (l - trailer_length) (put_from p (fitting l p (bytes_in (take p xs)) (o ∷ os))) xs
    go false e i = subst (λ (fs : List Object). GoAll (l - trailer_length) (put_from p fs) xs) (sym (fitting_none l p (bytes_in (take p xs)) o os e)) tt
    go true e i =
        let f : entry_length + length (data_of o) ≤ l - trailer_length - (entry_length * p + bytes_in (take p xs)) = leb-true _ _ e in
        let j = i (omega (arith, next_length p o xs h)) a.1 in
        subst (λ (fs : List Object). GoAll (l - trailer_length) (put_from p fs) xs) (sym (fitting_more l p (bytes_in (take p xs)) o os e))
        ((h, a.0, omega (arith, f)), subst (λ (b : ℕ). GoAll (l - trailer_length) (put_from (suc p) (fitting l (suc p) b os)) (happen (put p o) xs)) (next_bytes p o xs h) j)

-- ---- what WRITE offers may be held

one_kept : (d : Drive) (cmd sent : List ℕ) → field_error Write d cmd ≡ false → taken Write d cmd ≤ length sent → fixed_of cmd ≡ false
    → (z : Bool) → eqb (transfer_of cmd) 0 ≡ z → AllHoldable (cond z [] (block (take (transfer_of cmd) sent) ∷ []))
unfolding AllHoldable taken
one_kept d cmd sent w q f true e = tt
one_kept d cmd sent w q f false e =
    let x = one_field d cmd sent (transfer_of cmd) refl w q f (eqb-false (transfer_of cmd) 0 e) in
    let m = length-take-le (transfer_of cmd) sent (omega (arith, x.2)) in
    ((omega (arith, x.0), omega (arith, x.1)), tt)

blocks_offered : (d : Drive) (cmd sent : List ℕ) → d.block_length ≤ largest_block → field_error Write d cmd ≡ false → taken Write d cmd ≤ length sent → AllHoldable (offered Write d cmd sent)
unfolding offered
blocks_offered d cmd sent b w q = go (fixed_of cmd) refl
  where
    go : (f : Bool) → fixed_of cmd ≡ f → AllHoldable (cond f (blocks_of d.block_length (transfer_of cmd) sent) (cond (eqb (transfer_of cmd) 0) [] (block (take (transfer_of cmd) sent) ∷ [])))
    go true e = let x = fixed_fields d cmd sent (transfer_of cmd) refl w (unfold taken in q) e in blocks_kept d.block_length (transfer_of cmd) sent x.0 b x.1
    go false e = one_kept d cmd sent w q e (eqb (transfer_of cmd) 0) refl

-- ---- an act

module _ (d : Drive) (cmd sent : List ℕ) (room : ℕ) (v : Seen) where
  pub act_goes : (o : Operation) → d.position ≤ length v.objects → d.block_length ≤ largest_block → first (tests o d cmd v sent room) ≡ none → GoAll (v.size - trailer_length) (events_of o d cmd sent v) v.objects
  unfolding events_of goes_down
  act_goes o h b e = go (classify o) (passed o d cmd v sent room e)
    where
      go : Class o → Passed o d cmd v sent room → GoAll (v.size - trailer_length) (events_of o d cmd sent v) v.objects
      go (blocks w) q = rw w (fit_goes v.size (offered Write d cmd sent) d.position v.objects h (let k = rw w at q in blocks_offered d cmd sent b k.fields k.sends))
      go (filemarks w) q = rw w (fit_goes v.size (offered WriteFilemarks d cmd sent) d.position v.objects h (unfold offered in marks_kept (transfer_of cmd)))
      go (erasing w) q = rw w (unfold GoAll in (h, tt))
      go (quiet w) q = rw (no_events o w d cmd sent v) (unfold GoAll in tt)

-- what a step touches: nothing, or the current partition of a loaded drive
pub data Touch (o : Operation) (d : Drive) (cmd : List ℕ) (es : List Event) (clears : Bool) : Type 0 where
  untouched : es ≡ [] → clears ≡ false → Touch o d cmd es clears
  touched : looks_at o d cmd ≡ d.current → (d.loaded ≡ 0 → ⊥) → Touch o d cmd es clears

module _ (d : Drive) (cmd sent : List ℕ) (room : ℕ) (v : Seen) where
  -- what needs a cartridge and passed its tests has one
  pub has_cartridge : (o : Operation) → needs_cartridge o ≡ true → first (tests o d cmd v sent room) ≡ none → d.loaded ≡ 0 → ⊥
  has_cartridge o n e =
      let r : needs_cartridge o && eqb d.loaded 0 ≡ false = (passed o d cmd v sent room e).ready in
      let s : eqb d.loaded 0 ≡ false = rw n at r in
      eqb-false d.loaded 0 s

  pub act_touches : (o : Operation) → first (tests o d cmd v sent room) ≡ none → Touch o d cmd (events_of o d cmd sent v) (acted o d cmd sent v).clears
  unfolding looks_at acted
  act_touches o e = go (classify o)
    where
      go : Class o → Touch o d cmd (events_of o d cmd sent v) (acted o d cmd sent v).clears
      go (blocks w) = touched (rw w refl) (has_cartridge o (rw w refl) e)
      go (filemarks w) = touched (rw w refl) (has_cartridge o (rw w refl) e)
      go (erasing w) = touched (rw w refl) (has_cartridge o (rw w refl) e)
      go (quiet w) = untouched (no_events o w d cmd sent v) (rw (no_erase o w) refl)

-- ---- a step

quiet_stop : (s : Stop) (d : Drive) → ((stopped s d).events ≡ []) × ((stopped s d).clears ≡ false)
unfolding stopped
quiet_stop (refuse n) d = (refl, refl)
quiet_stop attend d = (refl, refl)
quiet_stop (fault k a q) d = (refl, refl)

module _ (d : Drive) (cmd sent : List ℕ) (room : ℕ) (v : Seen) where
  abbrev o : Operation
  o = operation_of (code_of cmd)

  pub step_goes : d.position ≤ length v.objects → d.block_length ≤ largest_block → GoAll (v.size - trailer_length) (step d cmd sent room v).events v.objects
  unfolding step
  step_goes h b = go (first (tests o d cmd v sent room)) refl
    where
      go : (s : Option Stop) → first (tests o d cmd v sent room) ≡ s → GoAll (v.size - trailer_length) (unless s d (acted o d cmd sent v)).events v.objects
      go (some s) e = unfold unless in rw (quiet_stop s d).0 (unfold GoAll in tt)
      go none e = unfold unless acted in act_goes d cmd sent room v o h b e

  pub step_touches : Touch o d cmd (step d cmd sent room v).events (step d cmd sent room v).clears
  unfolding step
  step_touches = go (first (tests o d cmd v sent room)) refl
    where
      go : (s : Option Stop) → first (tests o d cmd v sent room) ≡ s → Touch o d cmd (unless s d (acted o d cmd sent v)).events (unless s d (acted o d cmd sent v)).clears
      go (some s) e = unfold unless in untouched (quiet_stop s d).0 (quiet_stop s d).1
      go none e = unfold unless acted in act_touches d cmd sent room v o e
