use Rattle.std.proofs.Common.{◌≡◌, ℕ, ◌<◌, ◌≤◌, ◌+◌, ◌-◌, ◌*◌, ◌%◌, Bool, true, false, is_some, nat_le, refl, subst, arith}
use Rattle.std.proofs.lemmas.Bool.{leb-true, leb-false}
use Rattle.widget_model.specs.Widgets.{row_at}
use Rattle.tree_core.proofs.ForestLemmas.{one_is_free}
use Rattle.tree_core.proofs.add.free_number.Goals as goal

-- each of the 128 numbers is tried
tried : (first start id : ℕ) → start < 128 → first ≤ id → id < first + 128 → (k : ℕ) × ((k < 128) × (first + (start + k) % 128 ≡ id))
tried first start id below low high = by (nat_le (first + start) id) refl
  where
    by : (b : Bool) → nat_le (first + start) id ≡ b → (k : ℕ) × ((k < 128) × (first + (start + k) % 128 ≡ id))
    by true p =
        let after : first + start ≤ id = leb-true (first + start) id p in
        (id - (first + start), (omega arith, omega arith))
    by false p =
        let before : id < first + start = leb-false (first + start) id p in
        (id + 128 - (first + start), (omega arith, omega arith))

pub unreachable-requires : goal.unreachable-requires
unreachable-requires c =
    one_is_free c.args.client c.args.store.now c.requires.low c.requires.numbers c.requires.room
    (λ id low high.
    let there = tried (128 * (c.args.client - 1)) c.args.start id c.requires.start low high in
    let L : ℕ → Type 0 = λ number. is_some (row_at c.args.store.now number) ≡ true in
    subst L there.1.1 (c.loop-k.invariant there.0 (omega (arith, there.1.0))))
