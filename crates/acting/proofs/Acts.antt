-- What each command leaves, in the shape of the one definition over all of them.
-- Assumes nothing.
use Prim.Native.Nat.{ℕ, ◌+◌}
use native.Mathlib.Omega.{arith}
use mathlib.Core.Path.{◌≡◌, refl, sym, ap, ◌∙◌}
use mathlib.Core.Bool.{Bool, true, false, cond}
use mathlib.Core.List.{List, []}
use lib.Dec.{eqb}
use lib.IntN.{ℤ, sub_ℕ}
use lib.ListN.{length, take}
use Rattle.words.specs.Words.{over}
use Rattle.objects.specs.Object.{Object, bytes_in}
use Rattle.objects.specs.Movement.{Destination}
use Rattle.objects.specs.Room.{room_of, zone_in}
use Rattle.image.specs.Image.{protected}
use Rattle.record.specs.declared.drive.Drive.{Drive}
use Rattle.record.specs.Record.{loaded_anew, unloaded}
use Rattle.codes.specs.declared.operation.Operation.{Operation}
use Rattle.codes.specs.declared.operation.Operation.TheVariants.{Write, WriteFilemarks, LoadUnload}
use Rattle.codes.specs.Fields.{load_of, allocation_of, transfer_of, fixed_of}
use Rattle.commands.specs.Parameters.{list_right}
use Rattle.deeds.specs.declared.deeds.Left.{Left}
use Rattle.commands.specs.Kinds.{needs_cartridge, writes}
use Rattle.commands.specs.Act.{Seen, Deed, good, carrying, writing, marking, spacing, locating, selecting, reply_of, act, goes_down, wrote}
use Rattle.commands.specs.Step.{acted}
use Rattle.commands.specs.Call.{seen_of, nothing, laid_out}
use Rattle.deeds.specs.Left.{left_by, protected_only}
use Rattle.commands.proofs.Classes.{Class, blocks, filemarks, erasing, quiet, classify, unchanged, NoCartridge, asks_sense, asks_limits, selects, asks_mode, which_apart}

-- ---- commands that lay nothing over the receiving buffer

pub unlaid : (b : List ℕ) {x : List ℕ} → x ≡ [] → b ≡ over b 0 x
unfolding over
unlaid b e = rw e refl

either : (t : Bool) (x y : Deed) → x.received ≡ [] → y.received ≡ [] → (cond t x y).received ≡ []
either true x y h k = h
either false x y h k = k

wrote_none : (d : Drive) (v : Seen) (n : ℕ) (os : List Object) (z : ℤ) → (wrote d v n os z).received ≡ []
unfolding wrote
wrote_none d v n os z = either (eqb (length os) n) _ _ (either (zone_in v.size (room_of v.size (d.position + length os) (bytes_in (take d.position v.objects) + bytes_in os))) _ _ refl refl) refl

pub writing_none : (d : Drive) (cmd sent : List ℕ) (v : Seen) → (writing d cmd sent v).received ≡ []
unfolding writing
writing_none d cmd sent v =
    either (eqb (transfer_of cmd) 0) _ _ refl
    (either (fixed_of cmd) _ _ (wrote_none d v (transfer_of cmd) (goes_down Write d cmd sent v) (sub_ℕ (transfer_of cmd) (length (goes_down Write d cmd sent v)))) (wrote_none d v 1 (goes_down Write d cmd sent v) (sub_ℕ (transfer_of cmd) (bytes_in (goes_down Write d cmd sent v)))))

pub marking_none : (d : Drive) (cmd sent : List ℕ) (v : Seen) → (marking d cmd sent v).received ≡ []
unfolding marking
marking_none d cmd sent v = either (eqb (transfer_of cmd) 0) _ _ refl (wrote_none d v (transfer_of cmd) (goes_down WriteFilemarks d cmd sent v) (sub_ℕ (transfer_of cmd) (length (goes_down WriteFilemarks d cmd sent v))))

pub spacing_none : (d : Drive) (code : ℕ) (k : ℤ) (v : Seen) → (spacing d code k v).received ≡ []
unfolding spacing
spacing_none d code k v = refl

pub locating_none : (d : Drive) (k : ℕ) (t : Destination) (v : Seen) → (locating d k t v).received ≡ []
unfolding locating
locating_none d k t v = refl

pub selecting_none : (d : Drive) (cmd sent : List ℕ) → (selecting d cmd sent).received ≡ []
unfolding selecting
selecting_none d cmd sent = either (eqb (allocation_of cmd) 0) _ _ refl (either (list_right (allocation_of cmd) sent) _ _ refl refl)

-- ---- what is left of the drive and the buffers, in one

-- the Left r, the partition s become t, the buffer b become b'
abbrev pub Acts : Operation → Drive → List ℕ → List ℕ → Seen → List ℕ → List ℕ → List ℕ → List ℕ → Left → Type 0
Acts o d cmd sent v s t b b' r = (r ≡ left_by (act o d cmd sent v)) × (t ≡ laid_out (acted o d cmd sent v) s) × (b' ≡ over b 0 (act o d cmd sent v).received)

-- o is x, which an arm serves
module _ (d : Drive) (cmd sent s b : List ℕ) (x : Operation) {o : Operation} (e : o ≡ x) {r : Left} (q : r ≡ left_by (act x d cmd sent (seen_of s))) where
  -- x writes the partition, and lays nothing over the buffer
  pub acts_written : {t : List ℕ} → t ≡ laid_out (acted x d cmd sent (seen_of s)) s → (act x d cmd sent (seen_of s)).received ≡ [] → Acts o d cmd sent (seen_of s) s t b b r
  acts_written h n = rw e (q, h, unlaid b n)

  module _ (w : writes x ≡ false) where
    pub acts_laid : {b' : List ℕ} → b' ≡ over b 0 (act x d cmd sent (seen_of s)).received → Acts o d cmd sent (seen_of s) s s b b' r
    acts_laid h = rw e (q, sym (unchanged x w d cmd sent (seen_of s) s), h)

    -- nor lays anything over the buffer
    pub acts_quiet : (act x d cmd sent (seen_of s)).received ≡ [] → Acts o d cmd sent (seen_of s) s s b b r
    acts_quiet n = acts_laid (unlaid b n)

-- ---- LOAD UNLOAD

module _ (d : Drive) (cmd : List ℕ) (f : Bool) (ef : f ≡ load_of cmd) (x : Drive) (r : Left) (q : r ≡ left_by (carrying 0 (good x))) where
  pub loads : f ≡ true → x ≡ loaded_anew d → r ≡ left_by (act LoadUnload d cmd [] nothing)
  unfolding act
  loads h e = q ∙ rw (← ef, h, e) refl

  pub unloads : f ≡ false → x ≡ unloaded d → r ≡ left_by (act LoadUnload d cmd [] nothing)
  unfolding act
  unloads h e = q ∙ rw (← ef, h, e) refl

-- ---- those that need no cartridge: of the partition they see only its protection

sees_guard : (o : Operation) (d : Drive) (cmd sent : List ℕ) (v : Seen) → needs_cartridge o ≡ false → act o d cmd sent (protected_only v.guarded) ≡ act o d cmd sent v
unfolding act reply_of
sees_guard o d cmd sent v h = go (which_apart o h)
  where
    go : NoCartridge o → act o d cmd sent (protected_only v.guarded) ≡ act o d cmd sent v
    go (asks_sense e) = rw e refl
    go (asks_limits e) = rw e refl
    go (selects e) = rw e refl
    go (asks_mode e) = rw e refl

-- and write no partition
pub no_writing : (o : Operation) → needs_cartridge o ≡ false → writes o ≡ false
no_writing o h = go (classify o) h
  where
    never : true ≡ false → writes o ≡ false
    never e = absurd (let z : ◌≡◌ {A = ℕ} 0 1 = cc in omega arith)

    go : Class o → needs_cartridge o ≡ false → writes o ≡ false
    go (blocks e) h = never (rw e at h)
    go (filemarks e) h = never (rw e at h)
    go (erasing e) h = never (rw e at h)
    go (quiet q) h = q

-- the Left r, the buffer b become b'
abbrev pub Apart : Operation → Drive → List ℕ → List ℕ → Bool → List ℕ → List ℕ → Left → Type 0
Apart o d cmd sent g b b' r = (r ≡ left_by (act o d cmd sent (protected_only g))) × (b' ≡ over b 0 (act o d cmd sent (protected_only g)).received)

-- and on a partition whose protection is g
module _ (o : Operation) (d : Drive) (cmd sent s b : List ℕ) (n : needs_cartridge o ≡ false) {g : Bool} (eg : g ≡ protected s) where
  pub acts_apart : {b' : List ℕ} {r : Left} → Apart o d cmd sent g b b' r → Acts o d cmd sent (seen_of s) s s b b' r
  unfolding seen_of
  acts_apart x =
      let w : act o d cmd sent (protected_only g) ≡ act o d cmd sent (seen_of s) = ap (λ (t : Bool). act o d cmd sent (protected_only t)) eg ∙ sees_guard o d cmd sent (seen_of s) n in
      (x.0 ∙ ap left_by w, sym (unchanged o (no_writing o n) d cmd sent (seen_of s) s), x.1 ∙ ap (λ (y : Deed). over b 0 y.received) w)
