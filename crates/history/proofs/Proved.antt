-- Demand 3, whole.
-- Assumes nothing.
use Prim.Native.Nat.{ℕ, zero, suc, ◌<◌}
use native.Mathlib.Nat.{not-suc-le-zero, le_of_suc-le-suc}
use native.Mathlib.Omega.{arith}
use mathlib.Core.Path.{◌≡◌, ap}
use mathlib.Core.Logic.{◌↔◌, ◌⊎◌}
use mathlib.Core.Bool.{true}
use mathlib.Core.Option.{some}
use mathlib.Core.List.{List, [], ◌∷◌, ◌++◌}
use lib.ListN.{length, get_elem?}
use Rattle.answers.specs.Answers.{done}
use Rattle.objects.specs.Object.{Object}
use Rattle.objects.specs.Events.{Clear, Stands}
use Rattle.image.specs.Image.{sound, objects}
use Rattle.image.proofs.Facts.{sound_of}
use Rattle.record.specs.Record.{no_attention, decode_of}
use Rattle.house.specs.Mount.{mount_call}
use Rattle.history.specs.History.{Slot, number, Cartridge, part, MadeBlank, together, Call, commanded, ends, past}
use Rattle.history.specs.Answered.{Answered}
use Rattle.history.specs.Demand3.{NoFault, Mounted, AtBeginning, Reading, object, readings, meetings, Demand3, locate_first, rewind, Reached}
use Rattle.history.specs.Always.{Use, calls_of, record_used, AlwaysSo}
use Rattle.history.proofs.Told.{stood, still_sound, stands, ends_append}
use Rattle.history.proofs.ReadBack.{meets, unread}
use Rattle.history.proofs.Reached.{locate_reaches, rewind_reaches}
use Rattle.history.proofs.Answered as Answers
use Rattle.history.proofs.Always as Always

-- what the reads meet at number k
met_at : (n : ℕ) (xs : List Object) (k : ℕ) → k < n → (o : Object) → (get_elem? (meetings n xs) k ≡ some (object o)) ↔ (get_elem? xs k ≡ some o)
unfolding meetings
met_at zero xs k h o = absurd (not-suc-le-zero h)
met_at (suc n) [] zero h o = (λ e. absurd (let z : ◌≡◌ {A = ℕ} 0 1 = cc in omega arith), λ e. absurd (let z : ◌≡◌ {A = ℕ} 0 1 = cc in omega arith))
met_at (suc n) [] (suc k) h o = met_at n [] k (le_of_suc-le-suc h) o
met_at (suc n) (x ∷ xs) zero h o = (λ e. let q : x ≡ o = cc in ap some q, λ e. let q : x ≡ o = cc in ap (λ (y : Object). some (object y)) q)
met_at (suc n) (x ∷ xs) (suc k) h o = met_at n xs k (le_of_suc-le-suc h) o

-- of each partition that our software made blank
pub demand3 : (s : Slot) (c : Cartridge) → MadeBlank (part s c) → (calls : List Call) → Demand3 s c calls
demand3 s c m calls = record {
  still_sound = sound_of (part s (ends calls c)) (still_sound s c m calls);
  stands = stands s c m calls;
  meet = λ rec h b reads. meets s rec (ends calls c) h b reads;
  unread = λ rec h reads. unread reads rec (ends calls c) h;
  met = λ rec h b reads k l x.
      let a = met_at (length reads) (objects (part s (ends calls c))) k l x in
      let t = stands s c m calls k x in
      rw (meets s rec (ends calls c) h b reads) (λ e. t.0 (a.0 e), λ e. a.1 (t.1 e));
}

-- and what is read off each command's answer
pub answered : (rec cmd p0 p1 sent received : List ℕ) → Answered rec cmd p0 p1 sent received
answered rec cmd p0 p1 sent received = Answers.answered rec cmd p0 p1 sent received

-- of one that is sound, whoever made it: beside what was put since, what stood before and no event has touched
pub continued : (s : Slot) (c : Cartridge) → sound (part s c) ≡ true → (calls : List Call) (k : ℕ) (x : Object)
    → (get_elem? (objects (part s (ends calls c))) k ≡ some x) ↔ (Stands (past s calls c) k x ⊎ ((get_elem? (objects (part s c)) k ≡ some x) × Clear k (past s calls c)))
continued s c h calls k x = stood s c h calls k x

pub always_so : (rec : List ℕ) (c : Cartridge) → (mount_call rec c.part0 c.part1).answer ≡ done → (us : List Use) → AlwaysSo rec c us
always_so rec c h us = Always.always_so rec c h us

pub located : (s : Slot) (rec : List ℕ) (c : Cartridge) → Mounted rec c → number s < (decode_of rec).partitions → (sent received : List ℕ) → Reached s c (commanded together c rec (locate_first s) sent received)
located s rec c m h sent received = locate_reaches rec c.part0 c.part1 sent received m s h

pub rewound : (s : Slot) (rec : List ℕ) (c : Cartridge) → Mounted rec c → (decode_of rec).current ≡ number s → (sent received : List ℕ) → Reached s c (commanded together c rec rewind sent received)
rewound s rec c m h sent received = rewind_reaches rec c.part0 c.part1 sent received m s h

-- a command of a record in which number 4 finds no fault is not refused with 4
pub never_four : (rec : List ℕ) (c : Cartridge) → NoFault rec c → (cmd sent received : List ℕ) → (commanded together c rec cmd sent received).answer.refusal ≡ 4 → ⊥
never_four rec c h cmd sent received = Always.never_four rec cmd c.part0 c.part1 sent received h

-- ---- both in one: after any life the cartridge is mounted, then it and the record are used with each other alone, and so read

module _ (s : Slot) (c : Cartridge) (calls : List Call) (rec : List ℕ) (us : List Use) where
  abbrev mounted : List ℕ
  mounted = (mount_call rec (ends calls c).part0 (ends calls c).part1).lent

  abbrev now : List ℕ
  now = record_used us mounted (ends calls c)

  abbrev life : List Call
  life = calls ++ calls_of us mounted (ends calls c)

  pub since_mount : MadeBlank (part s c) → (mount_call rec (ends calls c).part0 (ends calls c).part1).answer ≡ done
      → (decode_of now).loaded ≡ 1 → (decode_of now).attention ≡ no_attention → AtBeginning s now → (reads : List Reading) (k : ℕ) → k < length reads → (x : Object)
      → (get_elem? (readings reads now (ends life c)) k ≡ some (object x)) ↔ Stands (past s life c) k x
  since_mount m h l a b reads k g x =
      let f : NoFault now (ends life c) = rw (ends_append calls (calls_of us mounted (ends calls c)) c) (Always.always_so rec (ends calls c) h us) in
      (demand3 s c m life).met now (record { no_fault = f; loaded = l; no_attention_lem = a }) b reads k g x
