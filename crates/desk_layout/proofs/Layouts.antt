-- A client's widgets as they are laid out: its slots are emptied, and then one Window after the other is laid out.
use Rattle.std.proofs.Common.{◌≡◌, ◌≢◌, ◌+◌, ◌<◌, ◌≤◌, ℕ, Bool, true, false, cond, ◌&&◌, nat_eq, nat_lt, nat_le, List, Option, Some, None, is_some, refl, sym, ap, ap₂, ◌∙◌, subst, arith, inl, inr}
use Rattle.std.proofs.lemmas.Bool.{true≢false, false≢true, cases_eq, eqb-true, ne_eqb, and_parts, and_from, le-leb, lt-ltb, leb-true, ltb-true, ltb-false, le-ltb}
use Rattle.std.specs.Option.{option_map, option_map_or, option_and_then}
use Rattle.widget_model.specs.Rows.{Row}
use Rattle.widget_model.specs.Named.{row_named, is_kind_of}
use Rattle.widget_model.specs.Nodes.{Node, id_named, first_number, is_number_of}
use Rattle.widget_model.specs.Kinds.{is_window_kind}
use Rattle.widget_model.specs.Trees.{root_of, most_levels}
use Rattle.widget_model.specs.Relatives.{root_id}
use Rattle.widget_model.specs.Widgets.{Widgets, rows_of, row_at, nodes, place_at, with_place}
use Rattle.widget_model.specs.Forest.{IsWidgets}
use Rattle.widget_model.proofs.Naming.{row_named-found, row_named-none, row_named-parts}
use Rattle.widget_model.proofs.Planting.{row_named-root}
use Rattle.tree_core.proofs.Listed.{row_named-row}
use Rattle.tree_core.proofs.TreeKept.{nodes-all}
use Rattle.tree_core.proofs.ForestLemmas.{number-client}
use Rattle.scene_model.specs.Placing.{place_in}
use Rattle.scene_model.specs.DuePlaces.{due_place}
use Rattle.scene_core.specs.Laid.{with_places}
use Rattle.scene_core.specs.Places.{HasPlaces}
use Rattle.scene_core.proofs.LaySteps.{set-same}
use Rattle.desk_layout.specs.Placed.{HaveDuePlaces}
use Rattle.desk_layout.specs.Settled.{IsSettled}
use Rattle.desk_layout.specs.Laid.{is_window_at, AreEmptied, place_below, AreLaidTo, AreLaidOut}

-- a live number is one of its client's
pub own-number : (w : Widgets) (id : ℕ) (row : Row) → IsWidgets w → row_at w.entries id ≡ Some row → is_number_of row.client id ≡ true
own-number w id row valid there = nodes-all (λ (e : ℕ × Node). is_number_of e.1.client e.0) w.entries id row valid.numbered.numbers there

-- the root of a live number
pub record HasRoot (w : Widgets) (id : ℕ) (row : Row) : Type 0 where
  pub root : ℕ
  pub upper : Row
  pub is : root_id w id ≡ Some root
  pub there : row_at w.entries root ≡ Some upper
  pub named : row_named (rows_of w) row.client (root_of (rows_of w) row.client row.name) ≡ Some upper
  pub number : is_number_of row.client root ≡ true

module _ (w : Widgets) (id : ℕ) (row : Row) (valid : IsWidgets w) (there : row_at w.entries id ≡ Some row) where
  abbrev top : List ℕ
  top = root_of (rows_of w) row.client row.name

  some : is_some (row_named (rows_of w) row.client top) ≡ true
  some = row_named-root most_levels (rows_of w) row.client row.name valid.rows.planted (ap is_some (row_named-row w.entries id row valid.numbered.own_numbers valid.rows.names there))

  found : (root : ℕ) → id_named (nodes w.entries) row.client top ≡ Some root → (o : Option Row) → row_at w.entries root ≡ o → HasRoot w id row
  found root q None p = absurd (false≢true (ap is_some (sym (row_named-found w.entries row.client top root valid.numbered.own_numbers q ∙ p)) ∙ some))
  found root q (Some upper) p =
      let named : row_named (rows_of w) row.client top ≡ Some upper = row_named-found w.entries row.client top root valid.numbered.own_numbers q ∙ p in
      record {
        root = root;
        upper = upper;
        is = ap (option_and_then (λ (r : Row). id_named (nodes w.entries) r.client (root_of (rows_of w) r.client r.name))) there ∙ q;
        there = p;
        named = named;
        number = ap (λ (client : ℕ). is_number_of client root) (sym (row_named-parts (rows_of w) row.client top upper named).0) ∙ own-number w root upper valid p;
      }

  pub has-root : HasRoot w id row
  has-root = by (id_named (nodes w.entries) row.client top) refl
    where
      by : (o : Option ℕ) → id_named (nodes w.entries) row.client top ≡ o → HasRoot w id row
      by None q = absurd (false≢true (ap is_some (sym (row_named-none w.entries row.client top q)) ∙ some))
      by (Some root) q = found root q (row_at w.entries root) refl

-- a number between a client's first and last
pub number-ends : (client id : ℕ) → is_number_of client id ≡ true → (first_number client ≤ id) × (id < first_number client + 128)
number-ends client id own =
    let parts = and_parts (nat_le 1 client) (nat_le (first_number client) id && nat_lt id (first_number client + 128)) own in
    let ends = and_parts (nat_le (first_number client) id) (nat_lt id (first_number client + 128)) parts.1 in
    (leb-true (first_number client) id ends.0, ltb-true id (first_number client + 128) ends.1)

pub number-at : (client k : ℕ) → 1 ≤ client → k < 128 → is_number_of client (first_number client + k) ≡ true
number-at client k low less =
    and_from _ _ (le-leb 1 client low) (and_from _ _ (le-leb (first_number client) (first_number client + k) (omega arith)) (lt-ltb (first_number client + k) (first_number client + 128) (omega (arith, less))))

-- where the root is laid out, the place is the one that is due
pub below-due : (w : Widgets) (limit id root : ℕ) (row : Row) → IsWidgets w → row_at w.entries id ≡ Some row → root_id w id ≡ Some root → nat_lt root limit ≡ true → place_below limit w root row ≡ due_place (rows_of w) row
unfolding due_place
below-due w limit id root row valid there is below =
    let has = has-root w id row valid there in
    let both : Some has.root ≡ Some root = sym has.is ∙ is in
    let same : has.root ≡ root = cc in
    let window : is_window_at w.entries root ≡ is_window_kind has.upper.kind =
    ap (is_window_at w.entries) (sym same) ∙ ap (λ (o : Option Row). option_map_or (λ (r : Row). is_window_kind r.kind) o false) has.there in
    ap₂ (λ (b d : Bool). cond (b && d) (Some (place_in (rows_of w) row)) None) below window
    ∙ ap (λ (o : Option Row). cond (is_kind_of is_window_kind o) (Some (place_in (rows_of w) row)) None) (sym has.named)

-- One slot after the other is emptied.
pub emptied-none : (client : ℕ) (w : Widgets) → IsWidgets w → AreEmptied client 0 w w
emptied-none client w valid = record {
  changed = record { same = refl; valid = valid; others = λ id apart. refl };
  none = λ id own below.
      let ends = number-ends client id own in
      absurd (omega (arith, ends.0, ltb-true id (first_number client + 0) below));
}

-- two changes of places, one after the other
same-then : (old mid new : Widgets) → mid ≡ with_places mid.places old → new ≡ with_places new.places mid → new ≡ with_places new.places old
same-then old mid new first second = second ∙ ap (with_places new.places) first

emptied-more : (client k : ℕ) (old mid new : Widgets) → 1 ≤ client → k < 128 → AreEmptied client k old mid → new ≡ with_places new.places mid → IsWidgets new → place_at new (first_number client + k) ≡ None
    → ((other : ℕ) → nat_eq other (first_number client + k) ≡ false → place_at new other ≡ place_at mid other) → AreEmptied client (k + 1) old new
emptied-more client k old mid new low less is same valid none others = record {
  changed = record {
    same = same-then old mid new is.changed.same same;
    valid = valid;
    others = λ id apart. others id (ne_eqb id (first_number client + k) (λ e. false≢true (sym apart ∙ ap (is_number_of client) e ∙ number-at client k low less))) ∙ is.changed.others id apart;
  };
  none = λ id own below. elim (cases_eq id (first_number client + k)) [
    | inl e ↦ ap (place_at new) e ∙ none
    | inr apart ↦ others id (ne_eqb id (first_number client + k) apart) ∙ is.none id own (lt-ltb id (first_number client + k) (let further = ltb-true id (first_number client + (k + 1)) below in omega (arith, further, apart)))
  ];
}

pub emptied-live : (client k : ℕ) (old mid new : Widgets) → 1 ≤ client → k < 128 → AreEmptied client k old mid → new ≡ with_place (first_number client + k) None mid → IsWidgets new → place_at new (first_number client + k) ≡ None
    → ((other : ℕ) → nat_eq other (first_number client + k) ≡ false → place_at new other ≡ place_at mid other) → AreEmptied client (k + 1) old new
emptied-live client k old mid new low less is set valid none others = emptied-more client k old mid new low less is (set-same mid new (first_number client + k) None set) valid none others

pub emptied-free : (client k : ℕ) (old mid : Widgets) → 1 ≤ client → k < 128 → AreEmptied client k old mid → is_some (row_at mid.entries (first_number client + k)) ≡ false → AreEmptied client (k + 1) old mid
emptied-free client k old mid low less is free =
    emptied-more client k old mid mid low less is refl is.changed.valid (is.changed.valid.placed.live (first_number client + k) (none (row_at mid.entries (first_number client + k)) free)) (λ other apart. refl)
  where
    none : (o : Option Row) → is_some o ≡ false → o ≡ None
    none None h = refl
    none (Some row) h = absurd (true≢false h)

-- the same of a tree that was there
pub emptied-now : (client : ℕ) (old new : Widgets) → AreEmptied client 128 old new → AreEmptied client 128 new new
emptied-now client old new is = record { changed = record { same = refl; valid = is.changed.valid; others = λ id apart. refl }; none = is.none }

-- One Window after the other is laid out.
pub laid-none : (client : ℕ) (w : Widgets) → IsWidgets w → AreEmptied client 128 w w → AreLaidTo client 0 w w
laid-none client w valid bare = record {
  changed = bare.changed;
  own = λ id root row there owned is.
      let number : is_number_of client id ≡ true = ap (λ (c : ℕ). is_number_of c id) (sym owned) ∙ own-number w id row valid there in
      let ends = number-ends client id number in
      let has = has-root w id row valid there in
      let both : Some has.root ≡ Some root = sym has.is ∙ is in
      let same : has.root ≡ root = cc in
      let upper = number-ends client root (ap₂ is_number_of (sym owned) (sym same) ∙ has.number) in
      bare.none id number (lt-ltb id (first_number client + 128) ends.1)
      ∙ sym (ap (λ (b : Bool). cond (b && is_window_at w.entries root) (Some (place_in (rows_of w) row)) None) (le-ltb root (first_number client + 0) (omega (arith, upper.0))));
}

no-and : (b : Bool) → (b && false) ≡ false
no-and true = refl
no-and false = refl

-- no Window with the next number, or another root
below-next : (limit next : ℕ) (w : Widgets) (root : ℕ) (row : Row) → next ≡ limit + 1 → (root ≡ limit → is_window_at w.entries root ≡ false) → place_below limit w root row ≡ place_below next w root row
below-next limit next w root row after apart = elim (cases_eq root limit) [
  | inl e ↦ ap (λ (b : Bool). cond b (Some (place_in (rows_of w) row)) None) (ap (λ (d : Bool). nat_lt root limit && d) (apart e) ∙ no-and (nat_lt root limit) ∙ sym (ap (λ (d : Bool). nat_lt root next && d) (apart e) ∙ no-and (nat_lt root next)))
  | inr other ↦ ap (λ (b : Bool). cond (b && is_window_at w.entries root) (Some (place_in (rows_of w) row)) None) (tests other (nat_lt root limit) refl)
]
  where
    tests : root ≢ limit → (b : Bool) → nat_lt root limit ≡ b → b ≡ nat_lt root next
    tests other true q = let less = ltb-true root limit q in sym (lt-ltb root next (omega (arith, after, less)))
    tests other false q = let past = ltb-false root limit q in sym (le-ltb root next (omega (arith, after, other, past)))

-- the number names no Window
pub laid-other : (client k window : ℕ) (old mid : Widgets) → window ≡ first_number client + k → AreLaidTo client k old mid → is_window_at mid.entries window ≡ false → AreLaidTo client (k + 1) old mid
laid-other client k window old mid at is none = record {
  changed = is.changed;
  own = λ id root row there owned rooted.
      is.own id root row there owned rooted
      ∙ below-next (first_number client + k) (first_number client + (k + 1)) old root row (omega arith)
      (λ e. ap (is_window_at old.entries) (e ∙ sym at) ∙ ap (λ (w : Widgets). is_window_at w.entries window) (sym is.changed.same) ∙ none);
}

same-record : (mid new : Widgets) → new.clients ≡ mid.clients → new.entries ≡ mid.entries → new ≡ with_places new.places mid
same-record mid new clients entries = ap₂ (λ (cs : List ℕ) (es : List (ℕ × Row)). let w : Widgets = record { clients = cs; entries = es; places = new.places } in w) clients entries

-- the number names a Window, which is laid out
module _ (client k window : ℕ) (old mid new : Widgets) (at : window ≡ first_number client + k) (low : 1 ≤ client) (less : k < 128) (valid : IsWidgets old) (is : AreLaidTo client k old mid) (named : is_window_at mid.entries window ≡ true)
    (clients : new.clients ≡ mid.clients) (entries : new.entries ≡ mid.entries) (placed : HasPlaces new window) where
  same : new ≡ with_places new.places old
  same = same-then old mid new is.changed.same (same-record mid new clients entries)

  one : (root : ℕ) → Some root ≡ Some window → root ≡ window
  one root both = cc

  -- roots are those of the old widgets
  back : (id : ℕ) → root_id mid id ≡ Some window → root_id old id ≡ Some window
  back id rooted = subst (λ (w : Widgets). root_id w id ≡ Some window) is.changed.same rooted

  own : (id : ℕ) (o : Option Row) → row_at old.entries id ≡ o → root_id old id ≡ Some window → is_number_of client id ≡ true
  own id None p rooted =
      let nothing : root_id old id ≡ None = ap (option_and_then (λ (r : Row). id_named (nodes old.entries) r.client (root_of (rows_of old) r.client r.name))) p in
      let both : None ≡ Some window = sym nothing ∙ rooted in
      absurd (cc)
  own id (Some row) p rooted =
      let has = has-root old id row valid p in
      let upper : has.root ≡ window = one has.root (sym has.is ∙ rooted) in
      let number : is_number_of row.client window ≡ true = ap (is_number_of row.client) (sym upper) ∙ has.number in
      let client_is : client ≡ row.client = eqb-true client row.client (sym (number-client client row.client window low number) ∙ ap (is_number_of client) at ∙ number-at client k low less) in
      ap (λ (c : ℕ). is_number_of c id) client_is ∙ own-number old id row valid p

  here : (id root : ℕ) (row : Row) → row_at old.entries id ≡ Some row → root_id old id ≡ Some root → root ≡ window → place_at new id ≡ place_below (first_number client + (k + 1)) old root row
  here id root row there rooted e =
      let under : root_id new id ≡ Some window = subst (λ (w : Widgets). root_id w id ≡ Some window) (sym same) (rooted ∙ ap Some e) in
      let further : nat_lt root (first_number client + (k + 1)) ≡ true = lt-ltb root (first_number client + (k + 1)) (omega (arith, e, at)) in
      let window_is : is_window_at old.entries root ≡ true = ap (is_window_at old.entries) e ∙ ap (λ (w : Widgets). is_window_at w.entries window) (sym is.changed.same) ∙ named in
      placed.each id under
      ∙ ap (λ (w : Widgets). option_map (place_in (rows_of w)) (row_at w.entries id)) same
      ∙ ap (option_map (place_in (rows_of old))) there
      ∙ sym (ap₂ (λ (b d : Bool). cond (b && d) (Some (place_in (rows_of old) row)) None) further window_is)

  pub laid-next : ((other : ℕ) → root_id mid other ≢ Some window → place_at new other ≡ place_at mid other) → IsWidgets new → AreLaidTo client (k + 1) old new
  laid-next others sound = record {
    changed = record {
      same = same;
      valid = sound;
      others = λ id apart. others id (λ rooted. false≢true (sym apart ∙ own id (row_at old.entries id) refl (back id rooted))) ∙ is.changed.others id apart;
    };
    own = λ id root row there owned rooted. elim (cases_eq root window) [
      | inl e ↦ here id root row there rooted e
      | inr other ↦
          others id (λ w. other (one root (sym rooted ∙ back id w)))
          ∙ is.own id root row there owned rooted
          ∙ ap (λ (limit : ℕ). place_below limit old root row) (sym at)
          ∙ below-next window (first_number client + (k + 1)) old root row (omega (arith, at)) (λ e. absurd (other e))
    ];
  }

-- all Windows of the client are laid out
pub laid-all : (client : ℕ) (old mid new : Widgets) → IsWidgets old → AreEmptied client 128 old mid → AreLaidTo client 128 mid new → AreLaidOut client old new
laid-all client old mid new valid bare is = record {
  changed = record {
    same = same-then old mid new bare.changed.same is.changed.same;
    valid = is.changed.valid;
    others = λ id apart. is.changed.others id apart ∙ bare.changed.others id apart;
  };
  own = λ id row there owned.
      let there_now : row_at mid.entries id ≡ Some row = ap (λ (w : Widgets). row_at w.entries id) bare.changed.same ∙ there in
      let has = has-root mid id row bare.changed.valid there_now in
      let ends = number-ends client has.root (ap (λ (c : ℕ). is_number_of c has.root) (sym owned) ∙ has.number) in
      is.own id has.root row there_now owned has.is
      ∙ below-due mid (first_number client + 128) id has.root row bare.changed.valid there_now has.is (lt-ltb has.root (first_number client + 128) ends.1)
      ∙ ap (λ (w : Widgets). due_place (rows_of w) row) bare.changed.same;
}

-- where the places of the others are due, then all are
pub laid-due : (client : ℕ) (old new : Widgets) → 1 ≤ client → AreLaidOut client old new
    → ((id : ℕ) (row : Row) → row_at old.entries id ≡ Some row → nat_eq client row.client ≡ false → place_at old id ≡ due_place (rows_of old) row) → HaveDuePlaces new
laid-due client old new low is others = record {
  each = λ id row there. by id row (ap (λ (w : Widgets). row_at w.entries id) (sym is.changed.same) ∙ there) there (nat_eq client row.client) refl ∙ ap (λ (w : Widgets). due_place (rows_of w) row) (sym is.changed.same);
}
  where
    by : (id : ℕ) (row : Row) → row_at old.entries id ≡ Some row → row_at new.entries id ≡ Some row → (b : Bool) → nat_eq client row.client ≡ b → place_at new id ≡ due_place (rows_of old) row
    by id row there now true q = is.own id row there (sym (eqb-true client row.client q))
    by id row there now false q = is.changed.others id (number-client client row.client id low (own-number new id row is.changed.valid now) ∙ q) ∙ others id row there q

-- nothing is laid out where nothing may have moved
pub settled-none : (client : ℕ) (moves : Bool) (w : Widgets) → IsWidgets w → moves ≡ false → IsSettled client moves w w
settled-none client moves w valid still = record {
  changed = record { same = refl; valid = valid; others = λ id apart. refl };
  laid = λ h. absurd (true≢false (sym h ∙ still));
  still = λ h. refl;
}

pub settled-laid : (client : ℕ) (moves : Bool) (old new : Widgets) → moves ≡ true → AreLaidOut client old new → IsSettled client moves old new
settled-laid client moves old new moved is = record { changed = is.changed; laid = λ h. is; still = λ h. absurd (true≢false (sym moved ∙ h)) }
