-- What commands that heed the block length make of it: FIXED is a field error with 0 alone; SILI hides a longer block with 0 alone, and all else alike.
-- Assumes nothing.
use Prim.Native.Nat.{ℕ, suc, ◌≤◌}
use native.Mathlib.Omega.{arith}
use mathlib.Core.Path.{◌≡◌, refl, sym, ap, ◌∙◌, subst}
use mathlib.Core.Logic.{◌↔◌, ◌⊎◌, inl, inr}
use mathlib.Core.Bool.{Bool, true, false, cond, not}
use mathlib.Core.Option.{none, some}
use mathlib.Core.List.{List}
use borrow.Author.Tests.{eqb-true, eq-eqb, ne_eqb, lt-ltb, le-ltb}
use lib.Dec.{eqb, ltb}
use lib.IntN.{sub_ℕ}
use lib.ListN.{length, take, get_elem?}
use lib.Seq.{length-take-le}
use Rattle.words.specs.Words.{over}
use Rattle.answers.specs.Answers.{answered, first}
use Rattle.answers.proofs.First.{not_both}
use Rattle.objects.specs.Object.{block}
use Rattle.record.specs.declared.drive.Drive.{Drive}
use Rattle.record.specs.Record.{decode_of, encode_of, with_sense}
use Rattle.codes.specs.declared.operation.Operation.{Operation}
use Rattle.codes.specs.declared.operation.Operation.TheVariants.{Read, Write}
use Rattle.codes.specs.Codes.{code_of, operation_of}
use Rattle.codes.specs.Fields.{transfer_of}
use Rattle.commands.specs.Stop.{Stop}
use Rattle.commands.specs.Act.{Deed, good, checked, giving, at, with_length, odd_met, hidden, read_variable, reading, act, events_of, offered, goes_down}
use Rattle.commands.specs.Tests.{field_error, tests}
use Rattle.commands.specs.Step.{status_of, kept_of, acted}
use Rattle.commands.specs.Call.{Lent, lent, Result, result_of, partition, looks_at, seen_of, nothing, seen, applied, written, command_call, command_tests}
use Rattle.commands.specs.Conditions.{FieldWrong}
use Rattle.commands.proofs.Ends.{call_acts}
use Rattle.commands.proofs.Goes.{has_cartridge}
use Rattle.history.specs.History.{Cartridge}
use Rattle.history.proofs.Ended.{Finished, by_number, by_sense, by_act, ended}
use Rattle.history.proofs.Acted.{idle, sees}
use Rattle.lengths.specs.Lengths.{length_in, besides, Twins, Fixed, Silent, BlockThere, MeetsLonger, longer_met}
use Rattle.lengths.proofs.Calls.{bare_deed, same_read, fixed_tests, same_call}

-- ---- FIXED

pub fixed_field : (rec : List ℕ) (x : Lent) → Fixed x → FieldWrong rec x ↔ (length_in rec ≡ 0)
fixed_field rec x f = (there, (λ e. inr (field ∙ eq-eqb (length_in rec) 0 e)))
  where
    by : (o : Operation) → (o ≡ Read) ⊎ (o ≡ Write) → field_error o (decode_of rec) x.cmd ≡ eqb (length_in rec) 0
    by o (inl e) = unfold field_error in rw (e, f.fixed, f.not_sili) refl
    by o (inr e) = unfold field_error in rw (e, f.fixed) refl

    field : field_error (operation_of (code_of x.cmd)) (decode_of rec) x.cmd ≡ eqb (length_in rec) 0
    field = by (operation_of (code_of x.cmd)) f.is

    there : FieldWrong rec x → length_in rec ≡ 0
    there (inl e) = absurd (not_both (sym f.masks ∙ e))
    there (inr e) = eqb-true (length_in rec) 0 (sym field ∙ e)

-- ---- SILI, unless a longer block is met

module _ (rec rec' : List ℕ) (w : Twins rec rec') (x : Lent) (s : Silent x) where
  abbrev d : Drive
  d = decode_of rec

  abbrev n : ℕ
  n = length_in rec'

  -- what is seen at the position is there
  met_there : (bs : List ℕ) → get_elem? (seen Read d x).objects d.position ≡ some (block bs) → BlockThere rec x bs
  unfolding seen looks_at seen_of
  met_there bs e = go (ltb d.current d.partitions) e
    where
      go : (t : Bool) → get_elem? (cond t (seen_of (partition d.current x.part0 x.part1)) nothing).objects d.position ≡ some (block bs) → BlockThere rec x bs
      go true e = e
      go false e = absurd (let z : ◌≡◌ {A = ℕ} 0 1 = cc in omega arith)

  same_hidden : (k : ℕ) → k ≤ transfer_of x.cmd → hidden (with_length d n) x.cmd k ≡ hidden d x.cmd k
  unfolding hidden
  same_hidden k h = rw (le-ltb (transfer_of x.cmd) k h) refl

  pub sili_alike : ((bs : List ℕ) → BlockThere rec x bs → length bs ≤ transfer_of x.cmd) → besides (command_call rec x) ≡ besides (command_call rec' x)
  sili_alike h = same_call rec rec' w x (record {
    by_tests = fixed_tests d n x.cmd (seen o d x) x.sent o (length x.received) s.variable;
    by_deed = subst (λ (p : Operation). bare_deed (act p (with_length d n) x.cmd x.sent (seen p d x)) ≡ bare_deed (act p d x.cmd x.sent (seen p d x))) (sym s.is) deeds;
    by_events = subst (λ (p : Operation). events_of p (with_length d n) x.cmd x.sent (seen p d x) ≡ events_of p d x.cmd x.sent (seen p d x)) (sym s.is) (unfold events_of goes_down offered in refl);
  })
    where
      o : Operation
      o = operation_of (code_of x.cmd)

      deeds : bare_deed (act Read (with_length d n) x.cmd x.sent (seen Read d x)) ≡ bare_deed (act Read d x.cmd x.sent (seen Read d x))
      deeds = unfold act in same_read d n x.cmd (seen Read d x) x.sent s.variable (λ bs e. same_hidden (length bs) (h bs (met_there bs e)))

-- ---- and where one is met

module _ (rec cmd p0 p1 sent received bs : List ℕ) where
  abbrev x : Lent
  x = lent cmd p0 p1 sent received

  abbrev f : Drive
  f = decode_of rec

  abbrev k : ℕ
  k = transfer_of cmd

  seen_so : first (command_tests rec x) ≡ none → operation_of (code_of cmd) ≡ Read → seen Read f x ≡ seen_of (partition f.current p0 p1)
  unfolding looks_at
  seen_so e is = go (ended rec cmd p0 p1 sent received)
    where
      not_stopped : (t : Stop) → first (command_tests rec x) ≡ some t → seen Read f x ≡ seen_of (partition f.current p0 p1)
      not_stopped t q = absurd (let z : none ≡ some t = sym e ∙ q in let y : ◌≡◌ {A = ℕ} 0 1 = cc in omega arith)

      go : Finished rec cmd p0 p1 sent received → seen Read f x ≡ seen_of (partition f.current p0 p1)
      go (by_number m h q c) = not_stopped _ q
      go (by_sense t q g b w p l c) = not_stopped t q
      go (by_act q w t c) =
          let u = subst (λ (p : Operation). first (tests p f cmd (seen p f x) sent (length received)) ≡ none) is t in
          sees rec x w Read u refl (has_cartridge f cmd sent (length received) (seen Read f x) Read refl u)

  pub longer_met_lem : MeetsLonger rec (lent cmd p0 p1 sent received) bs → command_call rec (lent cmd p0 p1 sent received) ≡ longer_met rec (lent cmd p0 p1 sent received) bs (eqb (length_in rec) 0)
  unfolding applied acted
  longer_met_lem m =
      call_acts rec x m.acts
      ∙ ap (λ (p : Operation). written rec (applied (acted p f cmd sent (seen p f x)) (looks_at p f cmd) x)) m.silent.is
      ∙ ap (λ (q : Cartridge). by (act Read f cmd sent (seen Read f x)) q.part0 q.part1) (idle rec x Read refl)
      ∙ ap (λ (e : Deed). by e p0 p1) does
      ∙ ended_so (eqb (length_in rec) 0)
    where
      by : Deed → List ℕ → List ℕ → Result
      by e q0 q1 = result_of (answered (status_of e.tells) e.carried e.crossed) (encode_of (with_sense e.drive (kept_of e.tells))) (lent cmd q0 q1 sent (over received 0 e.received))

      carries : Bool → Deed
      carries t = giving (take k bs) (cond t (good (at f (suc f.position))) (checked (at f (suc f.position)) (odd_met (sub_ℕ k (length bs)))))

      hides : hidden f cmd (length bs) ≡ eqb (length_in rec) 0
      hides = unfold hidden in rw (m.silent.sili, lt-ltb k (length bs) m.longer) (twice (eqb (length_in rec) 0))
        where
          twice : (t : Bool) → not (not t) ≡ t
          twice true = refl
          twice false = refl

      does : act Read f cmd sent (seen Read f x) ≡ carries (eqb (length_in rec) 0)
      does = unfold act reading read_variable seen_of in rw (seen_so m.acts m.silent.is, ne_eqb k 0 (λ e. omega (arith, m.asks)), m.silent.variable, m.there, ne_eqb (length bs) k (λ e. omega (arith, m.longer)), hides) refl

      ended_so : (t : Bool) → by (carries t) p0 p1 ≡ longer_met rec x bs t
      ended_so true = unfold status_of kept_of in rw (length-take-le k bs (omega (arith, m.longer))) refl
      ended_so false = unfold status_of kept_of in rw (length-take-le k bs (omega (arith, m.longer))) refl
