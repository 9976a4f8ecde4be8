use Rattle.std.proofs.Common.{◌≡◌, Some, slice_get, sym, ap, ◌∙◌, arith}
use Rattle.std.specs.Option.{option_map}
use Rattle.std.specs.Map.Iter.{deref_pair}
use Rattle.slab.specs.Slab.{get as slab_get}
use Rattle.row_store.proofs.ShownLemmas.{length-shown, slice_get-live, slice_get-shown}
use Rattle.row_store.proofs.store.entry_at.Goals as goal

pub unwrap-requires : goal.unwrap-requires
unwrap-requires c =
    let same = length-shown (slab_get c.args.rows.now) c.args.keys.now.entries c.requires.kept in
    c.get_index.ensures.found.1 (omega (arith, same, c.requires.within))

pub index-requires : goal.index-requires
index-requires c =
    let there : slice_get c.args.keys.now.entries c.args.index ≡ Some (c.unwrap.result.0.now, c.unwrap.result.1.now) = sym c.get_index.ensures.entry ∙ ap (option_map deref_pair) c.unwrap.ensures in
    slice_get-live (slab_get c.args.rows.now) c.args.keys.now.entries c.args.index _ _ c.requires.kept there

pub returns : goal.returns
returns c =
    let there : slice_get c.args.keys.now.entries c.args.index ≡ Some (c.unwrap.result.0.now, c.unwrap.result.1.now) = sym c.get_index.ensures.entry ∙ ap (option_map deref_pair) c.unwrap.ensures in
    slice_get-shown (slab_get c.args.rows.now) c.args.keys.now.entries c.args.index _ _ _ c.requires.kept there c.index.ensures
