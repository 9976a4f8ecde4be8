use Rattle.std.proofs.Common.{◌≡◌, Some, nat_eq, is_some, sym, ap, ◌∙◌}
use Rattle.std.specs.Option.{option_copied, option_map, option_and_then}
use Rattle.std.specs.Map.{lookup}
use Rattle.slab.specs.Slab.{get as slab_get}
use Rattle.widget_model.specs.Rows.{Row, with_film}
use Rattle.row_store.proofs.Options.{is_some-copied}
use Rattle.row_store.proofs.ShownLemmas.{listed, lookup-live, row_at-shown, shown-changed}
use Rattle.row_store.proofs.store.swap_film_under.Goals as goal

pub unwrap-key-requires : goal.unwrap-key-requires
unwrap-key-requires c =
    sym (is_some-copied c.get.result) ∙ ap is_some c.get.ensures.value ∙ listed (slab_get c.args.rows.now) c.args.keys.now.entries c.args.id c.requires.kept c.requires.live

pub index_mut-row-requires : goal.index_mut-row-requires
index_mut-row-requires c =
    let found : lookup (nat_eq c.args.id) c.args.keys.now.entries ≡ Some c.unwrap-key.result.now = sym c.get.ensures.value ∙ ap option_copied c.unwrap-key.ensures in
    lookup-live (slab_get c.args.rows.now) c.args.keys.now.entries c.args.id _ c.requires.kept found

pub returns-clause-kept : goal.returns-clause-kept
returns-clause-kept c =
    let found : lookup (nat_eq c.args.id) c.args.keys.now.entries ≡ Some c.unwrap-key.result.now = sym c.get.ensures.value ∙ ap option_copied c.unwrap-key.ensures in
    (shown-changed c.args.rows.now c.args.keys.now.entries c.args.id c.unwrap-key.result.now c.index_mut-row.result.now c.swap_film.new.self (with_film c.args.film) c.requires.kept found c.index_mut-row.ensures.value c.swap_film.ensures.film).1

pub returns-clause-film : goal.returns-clause-film
returns-clause-film c =
    let found : lookup (nat_eq c.args.id) c.args.keys.now.entries ≡ Some c.unwrap-key.result.now = sym c.get.ensures.value ∙ ap option_copied c.unwrap-key.ensures in
    (shown-changed c.args.rows.now c.args.keys.now.entries c.args.id c.unwrap-key.result.now c.index_mut-row.result.now c.swap_film.new.self (with_film c.args.film) c.requires.kept found c.index_mut-row.ensures.value c.swap_film.ensures.film).0

pub returns-clause-was : goal.returns-clause-was
returns-clause-was c =
    let found : lookup (nat_eq c.args.id) c.args.keys.now.entries ≡ Some c.unwrap-key.result.now = sym c.get.ensures.value ∙ ap option_copied c.unwrap-key.ensures in
    let at = slab_get c.args.rows.now in
    ap (option_map (λ (row : Row). row.film)) (row_at-shown at c.args.keys.now.entries c.args.id c.requires.kept ∙ ap (option_and_then at) found ∙ c.index_mut-row.ensures.value) ∙ ap Some (sym c.swap_film.ensures.was)
