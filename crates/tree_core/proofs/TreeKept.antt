-- What each call leaves of the parts of a tree.
use Rattle.std.proofs.Common.{rules, ◌≡◌, ◌≤◌, ◌<◌, ◌+◌, ◌-◌, ◌*◌, ℕ, Bool, true, false, cond, not, nat_eq, is_some, length, get_or, IfSome, List, [], ◌∷◌, ◌++◌, Option, Some, None, refl, sym, ap, ◌∙◌, subst, arith}
use Rattle.std.proofs.Math.ListN.{length-set}
use Rattle.std.proofs.lemmas.Bool.{true≢false, eqb-true, and_parts, and_from, le-leb}
use Rattle.std.proofs.lemmas.Bool.Decides.{nat_tests}
use Rattle.std.proofs.lemmas.List.{get_or-set_same, get_or-set_other, length-replicate}
use Rattle.std.specs.List.{filter, list_all}
use Rattle.std.specs.Option.{option_map, option_and_then}
use Rattle.geom_core.specs.declared.rectangle.Rect.{Rect}
use Rattle.kind_core.specs.declared.kinds.Kind.{Kind}
use Rattle.kind_core.specs.declared.kinds.Kind.TheVariants.{VScreen}
use Rattle.kind_core.specs.declared.shapes.Cell.{Cell}
use Rattle.vscreen_core.specs.FilmState.{FilmState, IsFilm}
use Rattle.widget_model.specs.Rows.{Row, IsIndex, with_link, with_attached, with_film, new_row}
use Rattle.widget_model.specs.Nodes.{Node, node_of, is_number_of, first_number}
use Rattle.widget_model.specs.Named.{with_named}
use Rattle.widget_model.specs.Planted.{IsPlanted}
use Rattle.widget_model.specs.KeptPlaces.{no_places, most_numbers, place_in, placed, unplaced}
use Rattle.widget_model.specs.Fitting.{is_fit, IsFitFilm}
use Rattle.widget_model.specs.Trees.{is_used}
use Rattle.widget_model.specs.Widgets.{Widgets, row_at, nodes, rows_in, rows_of, with_row, without_row, row_kind, IsLive}
use Rattle.widget_model.specs.Clients.{is_joined, is_client}
use Rattle.widget_model.specs.RowFacts.{links_right, AreRows}
use Rattle.widget_model.specs.Forest.{HaveOwnNumbers, AreNumbered, ArePlaces, IsWidgets}
use Rattle.widget_model.proofs.Fit.{is_fit-new}
use Rattle.widget_model.proofs.Hanging.{all_at}
use Rattle.widget_model.proofs.Leaves.{LeavesNode-node}
use Rattle.widget_model.proofs.ChangedRows.{Suits, AreRows-with_named}
use Rattle.widget_model.proofs.NewRows.{IsNew, all-push, AreRows-push, AreRows-joined}
use Rattle.widget_model.proofs.LeftRows.{all-kept, IsFree-unused, AreRows-remove, AreRows-others}
use Rattle.widget_model.proofs.Naming.{rows-push, rows-filter_others}
use Rattle.widget_model.proofs.Planting.{IsPlanted-change}
use Rattle.widget_model.proofs.Slots.{most_numbers-is, emptied_slot, still_empty, length-unplaced, unplaced-none, unplaced-own}
use Rattle.row_store.specs.CellTable.{cell_offset}
use Rattle.row_store.specs.declared.count.Count.{Count}
use Rattle.row_store.specs.Counts.{AreCounts, no_counts, lost, forgotten}
use Rattle.row_store.specs.Index.{IsIndexed}
use Rattle.row_store.specs.KeptSlots.{Kept}
use Rattle.row_store.proofs.Options.{none_or_some}
use Rattle.row_store.proofs.CountsLemmas.{AreCounts-none, AreCounts-with_named, AreCounts-lose, AreCounts-forget}
use Rattle.row_store.proofs.FilledUp.{none_anywhere}
use Rattle.row_store.proofs.UnderNumbers.{nodes-with_row, row_at-with_row, row_at-without_row, row_at-filter, without_row-filter}
use Rattle.row_store.proofs.UnderNames.{IsIndexed-others}
use Rattle.tree_core.specs.Children.{HasChildren}
use Rattle.tree_core.specs.Kept.{IsGrove, Parts, IsTree, widgets_of}
use Rattle.tree_core.specs.Refusals.{add_refusal}
use Rattle.tree_core.proofs.Listed.{numbered_place, All-at, row_named-row}
use Rattle.tree_core.proofs.ForestLemmas.{live-with_row, AreNumbered-push, AreNumbered-filter, no_refusal, joined_in_range, was_joined, clients_but, rows_but, joined-before, rows-departed}
use Rattle.tree_core.proofs.Groves.{rows_in-with_row, rows_in-without_row}
use Rattle.tree_core.proofs.Moves.{HasChildren-still, HasChildren-push}
use Rattle.tree_core.proofs.Taken.{children-without, IsEmptied, children-others}

-- a live number has a row, whose values fit, and stays live when a row changes
pub live_row : {clients : List ℕ} {es : List (ℕ × Row)} {places : List (Option Rect)} {widgets : Widgets} → record { clients = clients; entries = es; places = places } ≡ widgets → (id : ℕ) → IsLive widgets id → (row : Row) × (row_at es id ≡ Some row)
live_row {clients} {es} view id live = none_or_some (row_at es id) (ap (λ (w : Widgets). is_some (row_at w.entries id)) view ∙ live)

pub live_edited : {clients : List ℕ} {es : List (ℕ × Row)} {places : List (Option Rect)} {widgets : Widgets} → record { clients = clients; entries = es; places = places } ≡ widgets → (id : ℕ) (change : Row → Row) (other : ℕ) → IsLive widgets other → is_some (row_at (with_row id change es) other) ≡ true
live_edited {clients} {es} view id change other live = live-with_row es id change other (ap (λ (w : Widgets). is_some (row_at w.entries other)) view ∙ live)

pub kind_live : (widgets : Widgets) (id : ℕ) (kind : Kind) → row_kind widgets.entries id ≡ Some kind → IsLive widgets id
kind_live widgets id kind is = by (row_at widgets.entries id) is
  where
    by : (o : Option Row) → option_map (λ (row : Row). row.kind) o ≡ Some kind → is_some o ≡ true
    by None h = absurd (cc)
    by (Some row) h = refl

pub fits_at : (es : List (ℕ × Row)) (id : ℕ) (row : Row) → list_all is_fit (rows_in es) ≡ true → row_at es id ≡ Some row → is_fit row ≡ true
fits_at es id row fitting there =
    let place = numbered_place es id row there in
    all_at is_fit (rows_in es) place.0 row fitting place.1

-- what holds of all nodes holds of a numbered row's
pub nodes-all : (p : ℕ × Node → Bool) (es : List (ℕ × Row)) (id : ℕ) (row : Row) → list_all p (nodes es) ≡ true → row_at es id ≡ Some row → p (id, node_of row) ≡ true
nodes-all p [] id row h there = absurd (cc)
nodes-all p (e ∷ es) id row h there = by (nodes-all p es id row) (nat_eq id e.0) refl there (and_parts (p (e.0, node_of e.1)) (list_all p (nodes es)) h)
  where
    by : (list_all p (nodes es) ≡ true → row_at es id ≡ Some row → p (id, node_of row) ≡ true) → (b : Bool) → nat_eq id e.0 ≡ b → cond b (Some e.1) (row_at es id) ≡ Some row → (p (e.0, node_of e.1) ≡ true) × (list_all p (nodes es) ≡ true) → p (id, node_of row) ≡ true
    by rest true q k parts =
        let same : e.1 ≡ row = cc in
        ap (λ (n : ℕ). p (n, node_of row)) (eqb-true id e.0 q) ∙ ap (λ (r : Row). p (e.0, node_of r)) (sym same) ∙ parts.0
    by rest false q k parts = rest parts.1 k

-- whose number a live one is
pub record IsOwned (clients : List ℕ) (id : ℕ) (row : Row) : Type 0 where
  pub low : 1 ≤ row.client
  pub high : row.client ≤ 16
  pub own : is_number_of row.client id ≡ true
  pub from : 128 * (row.client - 1) ≤ id
  pub to : id < 128 * row.client
  pub joined : is_joined clients row.client ≡ true

pub row-owned : (w : Widgets) (id : ℕ) (row : Row) → IsWidgets w → row_at w.entries id ≡ Some row → IsOwned w.clients id row
row-owned w id row widgets there =
    let place = numbered_place w.entries id row there in
    let joined : is_joined w.clients row.client ≡ true = all_at (λ (row : Row). is_joined w.clients row.client) (rows_of w) place.0 row widgets.rows.owners place.1 in
    let range = joined_in_range w.clients row.client joined widgets.clients in
    let own : is_number_of row.client id ≡ true = nodes-all (λ (e : ℕ × Node). is_number_of e.1.client e.0) w.entries id row widgets.numbered.numbers there in
    record { low = range.0; high = range.1; own = own; from = from row.client id own; to = to row.client id own; joined = joined }
  where
    from : (client id : ℕ) → is_number_of client id ≡ true → 128 * (client - 1) ≤ id
    from client id own = grind (arith, nat_tests)

    to : (client id : ℕ) → is_number_of client id ≡ true → id < 128 * client
    to client id own = grind (arith, nat_tests)

-- a joined client is 1 to 16
pub record IsMember (clients : List ℕ) (client : ℕ) : Type 0 where
  pub joined : is_joined clients client ≡ true
  pub low : 1 ≤ client
  pub high : client ≤ 16
  pub below : client < 17

-- what a change leaves that only gives a row other values, rules or tags
pub record LeavesTies (change : Row → Row) : Type 0 where
  pub node : (row : Row) → node_of (change row) ≡ node_of row
  pub link : (row : Row) → (change row).link ≡ row.link
  pub attached : (row : Row) → (change row).attached ≡ row.attached

-- at first there is nothing
pub IsTree-none : (kept : Kept) → kept.slots ≡ no_places → IsTree (record { clients = []; names = []; entries = []; cells = []; counts = no_counts; kept = kept })
IsTree-none kept same =
    let placed : ArePlaces [] kept.slots = record { slots = ap length same ∙ length-replicate most_numbers None; live = λ id none. ap (λ (slots : List (Option Rect)). place_in slots id) same ∙ none_anywhere most_numbers id } in
    let rows : AreRows [] [] = record { owners = refl; names = tt; most = λ client. omega arith; most_alike = λ client kind. omega arith; planted = search rules; linked = refl; fitting = refl; films = search rules } in
    record { widgets = record { clients = refl; rows = rows; numbered = record { own_numbers = tt; numbers = refl }; placed = placed }; indexed = search rules; counted = AreCounts-none; children = search rules; reach = λ client joined. absurd (true≢false (sym joined)); made = λ client joined. absurd (true≢false (sym joined)) }

pub IsGrove-tree : {parts : Parts} → IsTree parts → IsGrove parts.entries
IsGrove-tree tree = record { own_numbers = tree.widgets.numbered.own_numbers; own_names = tree.widgets.rows.names; planted = tree.widgets.rows.planted }

module _ {parts : Parts} (tree : IsTree parts) where
  pub owned : (id : ℕ) (row : Row) → row_at parts.entries id ≡ Some row → IsOwned parts.clients id row
  owned id row there = row-owned (widgets_of parts) id row tree.widgets there

  pub client-below : (id : ℕ) (row : Row) → row_at parts.entries id ≡ Some row → row.client < 17
  client-below id row there = let own = owned id row there in omega (arith, own.high)

  pub member : {widgets : Widgets} → record { clients = parts.clients; entries = parts.entries; places = parts.kept.slots } ≡ widgets → (client : ℕ) → is_joined widgets.clients client ≡ true → IsMember parts.clients client
  member view client there =
      let joined = ap (λ (w : Widgets). is_joined w.clients client) view ∙ there in
      let range = joined_in_range parts.clients client joined tree.widgets.clients in
      record { joined = joined; low = range.0; high = range.1; below = omega (arith, range.1) }

  -- the cells and the slot of a live number are there
  pub place_within : (id : ℕ) (row : Row) (column line : ℕ) → row_at parts.entries id ≡ Some row → IsIndex column → IsIndex line → cell_offset id column line < length parts.cells
  place_within id row column line there c l =
      let own = owned id row there in
      omega (arith, c, l, own.to, tree.reach row.client own.joined)

  pub slot_made : (id : ℕ) (row : Row) → row_at parts.entries id ≡ Some row → id < parts.kept.made
  slot_made id row there = let own = owned id row there in omega (arith, own.to, tree.made row.client own.joined)

  pub placed_there : (id : ℕ) (row : Row) → row_at parts.entries id ≡ Some row → (place : Option Rect) → place_in (placed id place parts.kept.slots) id ≡ place
  placed_there id row there place = let own = owned id row there in get_or-set_same parts.kept.slots id place None (omega (arith, own.to, own.high, tree.widgets.placed.slots, most_numbers-is))

  -- the film that a row has is a whole one
  pub film_whole : (id : ℕ) (film : Option FilmState) → option_map (λ (row : Row). row.film) (row_at parts.entries id) ≡ Some film → IfSome film (λ film. IsFilm film)
  film_whole id film there = by (row_at parts.entries id) refl there
    where
      whole : (o : Option FilmState) (kind : Kind) → IfSome o (λ film. (kind ≡ VScreen) × IsFilm film) → IfSome o (λ film. IsFilm film)
      whole None kind fit = tt
      whole (Some film) kind fit = fit.1

      by : (o : Option Row) → row_at parts.entries id ≡ o → option_map (λ (row : Row). row.film) o ≡ Some film → IfSome film (λ film. IsFilm film)
      by None p h = absurd (cc)
      by (Some row) p h =
          let place = numbered_place parts.entries id row p in
          let same : row.film ≡ film = cc in
          let W : Option FilmState → Type 0 = λ o. IfSome o (λ film. IsFilm film) in
          subst W same (whole row.film row.kind (All-at IsFitFilm (rows_in parts.entries) place.0 row tree.widgets.rows.films place.1))

  -- a row changes
  IsTree-with_row : (id : ℕ) (change : Row → Row) (row : Row) → row_at parts.entries id ≡ Some row → ((row : Row) → node_of (change row) ≡ node_of row) → Suits (rows_in parts.entries) row.client row.name row change → (cells : List (Option ℕ)) → HasChildren (with_row id change parts.entries) cells → length cells ≡ length parts.cells → IsTree (record parts { entries = with_row id change parts.entries; cells = cells })
  IsTree-with_row id change row there node suits cells children len =
      let es = parts.entries in
      let old = tree.widgets in
      let nodes_same = nodes-with_row es id change node in
      let rows_same = rows_in-with_row es id change row (IsGrove-tree tree) there in
      let named = row_named-row es id row old.numbered.own_numbers old.rows.names there in
      let R : List Row → Type 0 = λ rows. AreRows parts.clients rows in
      let N : List (ℕ × Node) → Type 0 = λ ns. AreNumbered ns in
      let I : List (ℕ × Node) → Type 0 = λ ns. IsIndexed parts.names ns in
      let C : List Row → Type 0 = λ rows. AreCounts parts.counts rows in
      record {
        widgets = record {
          clients = old.clients;
          rows = subst R (sym rows_same) (AreRows-with_named parts.clients (rows_in es) row.client row.name row change old.rows named suits);
          numbered = subst N (sym nodes_same) old.numbered;
          placed = record { slots = old.placed.slots; live = λ other none. old.placed.live other (unmapped other (row_at es other) (sym (row_at-with_row es id change other) ∙ none)) };
        };
        indexed = subst I (sym nodes_same) tree.indexed;
        counted = subst C (sym rows_same) (AreCounts-with_named parts.counts (rows_in es) row.client row.name change suits.leaves tree.counted);
        children = children;
        reach = λ client joined. omega (arith, tree.reach client joined, len);
        made = tree.made;
      }
    where
      unmapped : (other : ℕ) (o : Option Row) → option_map (λ (r : Row). cond (nat_eq id other) (change r) r) o ≡ None → o ≡ None
      unmapped other None h = refl
      unmapped other (Some r) h = absurd (cc)

  module _ (id : ℕ) (row : Row) (there : row_at parts.entries id ≡ Some row) where
    -- a change that leaves how the row hangs
    IsTree-still : (change : Row → Row) → ((row : Row) → node_of (change row) ≡ node_of row) → ((row : Row) → (change row).attached ≡ row.attached) → (links_right (rows_in parts.entries) row ≡ true → links_right (rows_in parts.entries) (change row) ≡ true) → (is_fit row ≡ true → is_fit (change row) ≡ true) → (IsFitFilm row → IsFitFilm (change row)) → IsTree (record parts { entries = with_row id change parts.entries })
    IsTree-still change node attached linked fits films =
        let leaves = LeavesNode-node change node in
        let planted = IsPlanted-change (rows_in parts.entries) row.client row.name change (record { leaves = leaves; attached = attached }) tree.widgets.rows.planted in
        IsTree-with_row id change row there node (record { leaves = leaves; planted = planted; linked = linked; fitting = fits; films = films }) parts.cells
        (HasChildren-still id change node attached parts.entries parts.cells tree.children) refl

    pub IsTree-leaves : (change : Row → Row) → LeavesTies change → (is_fit row ≡ true → is_fit (change row) ≡ true) → (IsFitFilm row → IsFitFilm (change row)) → IsTree (record parts { entries = with_row id change parts.entries })
    IsTree-leaves change leaves fits films =
        IsTree-still change leaves.node leaves.attached (λ h. rw (ap (λ (n : Node). n.client) (leaves.node row), leaves.link row) h) fits films

    -- another film of a VScreen, or none
    pub IsTree-film : (film : Option FilmState) → IfSome film (λ film. (row.kind ≡ VScreen) × IsFilm film) → IsTree (record parts { entries = with_row id (with_film film) parts.entries })
    IsTree-film film whole = IsTree-leaves (with_film film) (record { node = λ r. refl; link = λ r. refl; attached = λ r. refl }) (λ fits. fits) (λ fit. whole)

    -- a link to a Variable
    pub IsTree-link : (link : Option (List ℕ)) → links_right (rows_in parts.entries) (with_link link row) ≡ true → IsTree (record parts { entries = with_row id (with_link link) parts.entries })
    IsTree-link link new = IsTree-still (with_link link) (λ r. refl) (λ r. refl) (λ old. new) (λ fits. fits) (λ fit. fit)

    -- a widget is hung in another, or taken out of one
    pub IsTree-attached : (attached : Option (List ℕ × Cell)) (cells : List (Option ℕ)) → IsGrove (with_row id (with_attached attached) parts.entries) → HasChildren (with_row id (with_attached attached) parts.entries) cells → length cells ≡ length parts.cells → IsTree (record parts { entries = with_row id (with_attached attached) parts.entries; cells = cells })
    IsTree-attached attached cells grove children len =
        let P : List Row → Type 0 = λ rows. IsPlanted rows in
        let planted : P (with_named row.client row.name (with_attached attached) (rows_in parts.entries)) = subst P (rows_in-with_row parts.entries id (with_attached attached) row (IsGrove-tree tree) there) grove.planted in
        IsTree-with_row id (with_attached attached) row there (λ r. refl)
        (record { leaves = LeavesNode-node (with_attached attached) (λ r. refl); planted = planted; linked = λ h. h; fitting = λ fits. fits; films = λ fit. fit })
        cells children len

    -- the place of a live number is set
    pub IsTree-placed : (place : Option Rect) (new : Kept) → new.slots ≡ placed id place parts.kept.slots → new.made ≡ parts.kept.made → IsTree (record parts { kept = new })
    IsTree-placed place new slots made =
        let old = tree.widgets in
        record {
          widgets = record {
            clients = old.clients;
            rows = old.rows;
            numbered = old.numbered;
            placed = record {
              slots = ap length slots ∙ length-set parts.kept.slots id place ∙ old.placed.slots;
              live = λ other none. ap (λ (all : List (Option Rect)). place_in all other) slots ∙ get_or-set_other parts.kept.slots id other place None (λ same. let gone : None ≡ Some row = sym none ∙ ap (row_at parts.entries) same ∙ there in absurd (cc)) ∙ old.placed.live other none;
            };
          };
          indexed = tree.indexed;
          counted = tree.counted;
          children = tree.children;
          reach = tree.reach;
          made = λ client joined. omega (arith, made, tree.made client joined);
        }

    -- a row that isn't used is taken out
    pub IsTree-without : (names : List ((ℕ × List ℕ) × ℕ)) (new : Kept) → is_used (rows_in parts.entries) row ≡ false → IsIndexed names (nodes (without_row id parts.entries)) → new.slots ≡ placed id None parts.kept.slots → new.made ≡ parts.kept.made → IsTree (record parts { names = names; entries = without_row id parts.entries; counts = lost row.client row.kind parts.counts; kept = new })
    IsTree-without names new unused indexed slots made =
        let es = parts.entries in
        let old = tree.widgets in
        let grove = IsGrove-tree tree in
        let R : List Row → Type 0 = λ rows. AreRows parts.clients rows in
        let N : List (ℕ × Row) → Type 0 = λ rest. AreNumbered (nodes rest) in
        record {
          widgets = record {
            clients = old.clients;
            rows = subst R (sym (rows_in-without_row es id row grove there)) (AreRows-remove parts.clients (rows_in es) row.client row.name row old.rows (row_named-row es id row grove.own_numbers grove.own_names there) unused);
            numbered = subst N (sym (without_row-filter es id)) (AreNumbered-filter (λ (e : ℕ × Row). not (nat_eq id e.0)) es old.numbered);
            placed = record {
              slots = ap length slots ∙ length-set parts.kept.slots id None ∙ old.placed.slots;
              live = λ other none. ap (λ (all : List (Option Rect)). place_in all other) slots ∙ by other (nat_eq id other) refl (sym (row_at-without_row es id other) ∙ none);
            };
          };
          indexed = indexed;
          counted = AreCounts-lose parts.counts es id row (client-below id row there) old.numbered.own_numbers there tree.counted;
          children = children-without es parts.cells id row grove there (IsFree-unused (rows_in es) row unused) tree.children;
          reach = tree.reach;
          made = λ client joined. omega (arith, made, tree.made client joined);
        }
      where
        by : (other : ℕ) (b : Bool) → nat_eq id other ≡ b → cond b None (row_at parts.entries other) ≡ None → place_in (placed id None parts.kept.slots) other ≡ None
        by other true q none = ap (place_in (placed id None parts.kept.slots)) (sym (eqb-true id other q)) ∙ emptied_slot parts.kept.slots id
        by other false q none = still_empty parts.kept.slots id other (tree.widgets.placed.live other none)

  -- a new row of a joined client, where there was memory for it
  pub IsTree-added : (added : Bool) (names : List ((ℕ × List ℕ) × ℕ)) (counts : List Count) (id client : ℕ) (name : List ℕ) (kind : Kind) → row_at parts.entries id ≡ None → add_refusal (rows_in parts.entries) client name kind ≡ None → is_number_of client id ≡ true → is_joined parts.clients client ≡ true → IsIndexed names (nodes (cond added (parts.entries ++ (id, new_row client name kind) ∷ []) parts.entries)) → AreCounts counts (rows_in (cond added (parts.entries ++ (id, new_row client name kind) ∷ []) parts.entries)) → IsTree (record parts { names = names; entries = cond added (parts.entries ++ (id, new_row client name kind) ∷ []) parts.entries; counts = counts })
  unfolding new_row
  IsTree-added true names counts id client name kind absent allowed own joined indexed counted =
      let es = parts.entries in
      let row = new_row client name kind in
      let checks = no_refusal (rows_in es) client name kind allowed in
      let old = tree.widgets in
      let new : IsNew parts.clients (rows_in es) row = record { owner = joined; free = checks.0; few = checks.1; few_alike = checks.2; loose = refl; unlinked = refl; fitting = is_fit-new client name kind; no_film = refl } in
      let R : List Row → Type 0 = λ rows. AreRows parts.clients rows in
      record {
        widgets = record {
          clients = old.clients;
          rows = subst R (sym (rows-push es id row)) (AreRows-push parts.clients (rows_in es) row old.rows new);
          numbered = AreNumbered-push es id row old.numbered absent own;
          placed = record { slots = old.placed.slots; live = λ other none. old.placed.live other (before row es other none) };
        };
        indexed = indexed;
        counted = counted;
        children = HasChildren-push es id row absent refl checks.0 (IsGrove-tree tree) parts.cells tree.children;
        reach = tree.reach;
        made = tree.made;
      }
    where
      before : (row : Row) (rows : List (ℕ × Row)) (other : ℕ) → row_at (rows ++ (id, row) ∷ []) other ≡ None → row_at rows other ≡ None
      before row [] other none = refl
      before row (e ∷ rest) other none = grind (arith, before row rest other)
  IsTree-added false names counts id client name kind absent allowed own joined indexed counted =
      record { widgets = tree.widgets; indexed = indexed; counted = counted; children = tree.children; reach = tree.reach; made = tree.made }

  -- a client leaves with all its rows
  pub IsTree-departed : (cells : List (Option ℕ)) (new : Kept) (gone : ℕ) → 1 ≤ gone → gone < 17 → IsEmptied gone parts.cells cells → new.slots ≡ unplaced gone parts.kept.slots → new.made ≡ parts.kept.made → IsTree (record { clients = clients_but gone parts.clients; names = filter (λ (e : (ℕ × List ℕ) × ℕ). not (nat_eq gone e.0.0)) parts.names; entries = rows_but gone parts.entries; cells = cells; counts = forgotten gone parts.counts; kept = new })
  IsTree-departed cells new gone low below emptied slots made =
      let es = parts.entries in
      let old = tree.widgets in
      let grove = IsGrove-tree tree in
      let same = rows-filter_others es gone in
      let R : List Row → Type 0 = λ rows. AreRows (clients_but gone parts.clients) rows in
      let C : List Row → Type 0 = λ rows. AreCounts (forgotten gone parts.counts) rows in
      record {
        widgets = record {
          clients = all-kept is_client (λ (c : ℕ). not (nat_eq gone c)) parts.clients old.clients;
          rows = subst R (sym same) (AreRows-others parts.clients (rows_in es) gone old.rows);
          numbered = AreNumbered-filter (λ (e : ℕ × Row). not (nat_eq gone e.1.client)) es old.numbered;
          placed = record {
            slots = ap length slots ∙ length-unplaced gone parts.kept.slots ∙ old.placed.slots;
            live = λ other none. ap (λ (all : List (Option Rect)). place_in all other) slots ∙ by other (is_number_of gone other) refl (ap (λ (rest : List (ℕ × Row)). row_at rest other) (rows-departed es gone low old.numbered.numbers) ∙ none);
          };
        };
        indexed = IsIndexed-others parts.names es gone tree.indexed;
        counted = subst C (sym same) (AreCounts-forget parts.counts (rows_in es) gone below tree.counted);
        children = children-others es gone grove parts.cells cells low (λ id row there. (owned id row there).own) emptied tree.children;
        reach = λ other joined. omega (arith, emptied.len, tree.reach other (joined-before parts.clients gone other joined));
        made = λ other joined. omega (arith, made, tree.made other (joined-before parts.clients gone other joined));
      }
    where
      from : (other : ℕ) → is_number_of gone other ≡ true → first_number gone ≤ other
      from other q = grind (arith, nat_tests)

      to : (other : ℕ) → is_number_of gone other ≡ true → other < first_number gone + 128
      to other q = grind (arith, nat_tests)

      left : (es : List (ℕ × Row)) (other : ℕ) → is_number_of gone other ≡ false → row_at (filter (λ (e : ℕ × Row). not (is_number_of gone e.0)) es) other ≡ None → row_at es other ≡ None
      left [] other q none = refl
      left (e ∷ es) other q none = grind (arith, nat_tests, left es other)

      by : (other : ℕ) (b : Bool) → is_number_of gone other ≡ b → row_at (filter (λ (e : ℕ × Row). not (is_number_of gone e.0)) parts.entries) other ≡ None → place_in (unplaced gone parts.kept.slots) other ≡ None
      by other true q none = unplaced-own gone parts.kept.slots other (from other q) (to other q)
      by other false q none = unplaced-none gone parts.kept.slots other (tree.widgets.placed.live other (left parts.entries other q none))

  -- one more client, where there was memory for it
  pub IsTree-joined : (joins : Bool) (cells : List (Option ℕ)) (new : Kept) (client : ℕ) → 1 ≤ client → client ≤ 16 → ((place : ℕ) → get_or cells place None ≡ get_or parts.cells place None) → length parts.cells ≤ length cells → 32768 * client ≤ length cells → new.slots ≡ parts.kept.slots → parts.kept.made ≤ new.made → 128 * client ≤ new.made → IsTree (record parts { clients = cond joins (parts.clients ++ client ∷ []) parts.clients; cells = cells; kept = new })
  IsTree-joined joins cells new client low high same longer reach slots made more =
      let old = tree.widgets in
      record {
        widgets = record {
          clients = members joins;
          rows = rows joins;
          numbered = old.numbered;
          placed = record { slots = ap length slots ∙ old.placed.slots; live = λ id none. ap (λ (all : List (Option Rect)). place_in all id) slots ∙ old.placed.live id none };
        };
        indexed = tree.indexed;
        counted = tree.counted;
        children = record { each = λ id column line c l. same (cell_offset id column line) ∙ tree.children.each id column line c l };
        reach = λ other joined. reached joins other joined (nat_eq other client) refl;
        made = λ other joined. slotted joins other joined (nat_eq other client) refl;
      }
    where
      members : (b : Bool) → list_all is_client (cond b (parts.clients ++ client ∷ []) parts.clients) ≡ true
      members true = all-push is_client parts.clients client tree.widgets.clients (and_from _ _ (le-leb 1 client low) (le-leb client 16 high))
      members false = tree.widgets.clients

      rows : (b : Bool) → AreRows (cond b (parts.clients ++ client ∷ []) parts.clients) (rows_in parts.entries)
      rows true = AreRows-joined parts.clients client (rows_in parts.entries) tree.widgets.rows
      rows false = tree.widgets.rows

      member_was : (b : Bool) (other : ℕ) → is_joined (cond b (parts.clients ++ client ∷ []) parts.clients) other ≡ true → nat_eq other client ≡ false → is_joined parts.clients other ≡ true
      member_was true other joined q = was_joined parts.clients client other joined q
      member_was false other joined q = joined

      reached : (b : Bool) (other : ℕ) → is_joined (cond b (parts.clients ++ client ∷ []) parts.clients) other ≡ true → (d : Bool) → nat_eq other client ≡ d → 32768 * other ≤ length cells
      reached b other joined true q = omega (arith, eqb-true other client q, reach)
      reached b other joined false q = omega (arith, tree.reach other (member_was b other joined q), longer)

      slotted : (b : Bool) (other : ℕ) → is_joined (cond b (parts.clients ++ client ∷ []) parts.clients) other ≡ true → (d : Bool) → nat_eq other client ≡ d → 128 * other ≤ new.made
      slotted b other joined true q = omega (arith, eqb-true other client q, more)
      slotted b other joined false q = omega (arith, tree.made other (member_was b other joined q), made)

-- the numbers of other clients stay live
pub live-departed : (es : List (ℕ × Row)) (gone other : ℕ) → HaveOwnNumbers (nodes es) → is_some (row_at es other) ≡ true → (option_map (λ (row : Row). row.client) (row_at es other) ≡ Some gone → ⊥) → is_some (row_at (rows_but gone es) other) ≡ true
live-departed es gone other own live apart = ap is_some (row_at-filter (λ (e : ℕ × Row). not (nat_eq gone e.1.client)) es other own) ∙ by (row_at es other) live apart
  where
    kept : (row : Row) (b : Bool) → nat_eq gone row.client ≡ b → (Some row.client ≡ Some gone → ⊥) → is_some (cond (not b) (Some row) None) ≡ true
    kept row true q k = absurd (k (ap Some (sym (eqb-true gone row.client q))))
    kept row false q k = refl

    by : (o : Option Row) → is_some o ≡ true → (option_map (λ (row : Row). row.client) o ≡ Some gone → ⊥) → is_some (option_and_then (λ (row : Row). cond (not (nat_eq gone row.client)) (Some row) None) o) ≡ true
    by None h k = h
    by (Some row) h k = kept row (nat_eq gone row.client) refl k
