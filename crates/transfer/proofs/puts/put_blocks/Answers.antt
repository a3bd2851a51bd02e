-- The iterator gives the blocks of the definition (`blocks_yielded`).
-- Assumes nothing.
use Rattle.std.proofs.Common.{◌≡◌, refl, rules}
use Rattle.std.proofs.lemmas.List.{take_all}
use Rattle.objects.specs.Transfer.{blocks_of}
use Rattle.changes.proofs.Down.{blocks_kept}
use Rattle.transfer.proofs.Yielded.{blocks_yielded}
use Rattle.transfer.proofs.puts.put_blocks.Goals as goal

pub put_objects-requires : goal.put_objects-requires
put_objects-requires c κs =
    let q = c.requires in (
      (refl, tt),
      (
        (q.0, q.1),
        (
          search rules,
          (
            blocks_of c.args.b c.args.n c.args.sent.now,
            (blocks_yielded _ c.args.b (λ f. f ≡ c.map.result.f) (λ f x r h u l k. (search (rules, u), search (rules, take_all, u, l))) _ _ _ refl q.2 (search rules) (search rules) q.4, blocks_kept _ _ _ q.2 q.3 q.4),
          ),
        ),
      ),
    )

pub returns : goal.returns
returns c =
    let q = c.requires in
    c.put_objects.ensures (blocks_of c.args.b c.args.n c.args.sent.now)
    (blocks_yielded _ c.args.b (λ f. f ≡ c.map.result.f) (λ f x r h u l k. (search (rules, u), search (rules, take_all, u, l))) _ _ _ refl q.2 (search rules) (search rules) q.4, blocks_kept _ _ _ q.2 q.3 q.4)
