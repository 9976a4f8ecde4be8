-- The counts stay right when a row is put last, taken out, or taken out with all rows of its client.
use Rattle.std.proofs.Common.{◌≡◌, ℕ, ◌+◌, ◌-◌, ◌<◌, Bool, true, false, cond, ◌&&◌, nat_eq, List, [], ◌∷◌, ◌++◌, length, set, Option, Some, None, refl, sym, ap, ◌∙◌, arith}
use Rattle.std.proofs.lemmas.Bool.{eqb-true, eqb-false}
use Rattle.std.proofs.lemmas.List.{length-set, length-replicate, get_or-set_same, get_or-set_other, get_or-replicate}
use Rattle.std.specs.Cmp.{nat_eq_equiv}
use Rattle.kind_core.specs.declared.kinds.Kind.{Kind}
use Rattle.kind_core.specs.declared.kinds.Kind.TheVariants.{Window, VScreen}
use Rattle.widget_model.specs.Rows.{Row}
use Rattle.widget_model.specs.Named.{with_named, rows_counted, rows_of_others}
use Rattle.widget_model.specs.Kinds.{any_kind, counts_with, counted}
use Rattle.widget_model.specs.Widgets.{row_at, without_row, nodes, rows_in}
use Rattle.widget_model.specs.Forest.{HaveOwnNumbers}
use Rattle.row_store.specs.declared.count.Count.{Count}
use Rattle.row_store.specs.Counts.{no_count, no_counts, number_alike, one_more, one_less, count_in, gained, lost, forgotten, AreCounts}
use Rattle.widget_model.proofs.Hanging.{changed}
use Rattle.widget_model.proofs.Leaves.{LeavesNode, LeavesNode-changed}
use Rattle.widget_model.proofs.ChangedRows.{rows_counted-map}
use Rattle.widget_model.proofs.NewRows.{rows_counted-push}
use Rattle.row_store.proofs.UnderNumbers.{rows_counted-cons, rows_counted-without_row, rows_counted-others}

-- the counts of a list that has one changed
count_in-set : (counts : List Count) (at client : ℕ) (c : Count) → at < length counts → count_in (set counts at c) client ≡ cond (nat_eq client at) c (count_in counts client)
count_in-set counts at client c within = by (nat_eq client at) refl
  where
    by : (b : Bool) → nat_eq client at ≡ b → count_in (set counts at c) client ≡ cond b c (count_in counts client)
    by true p = rw (eqb-true client at p) (get_or-set_same counts at c no_count within)
    by false p = get_or-set_other counts at client c no_count (eqb-false client at p)

-- what one more and one less do to each number
one_more-widgets : (kind : Kind) (c : Count) → (one_more kind c).widgets ≡ c.widgets + 1
one_more-widgets Window c = refl
one_more-widgets VScreen c = refl
one_more-widgets _ c = refl

one_more-windows : (kind : Kind) (c : Count) → (one_more kind c).windows ≡ c.windows + cond (counts_with Window kind) 1 0
one_more-windows Window c = refl
one_more-windows VScreen c = omega arith
one_more-windows _ c = omega arith

one_more-screens : (kind : Kind) (c : Count) → (one_more kind c).screens ≡ c.screens + cond (counts_with VScreen kind) 1 0
one_more-screens Window c = omega arith
one_more-screens VScreen c = refl
one_more-screens _ c = omega arith

one_less-widgets : (kind : Kind) (c : Count) → (one_less kind c).widgets ≡ c.widgets - 1
one_less-widgets Window c = refl
one_less-widgets VScreen c = refl
one_less-widgets _ c = refl

one_less-windows : (kind : Kind) (c : Count) → (one_less kind c).windows ≡ c.windows - cond (counts_with Window kind) 1 0
one_less-windows Window c = refl
one_less-windows VScreen c = omega arith
one_less-windows _ c = omega arith

one_less-screens : (kind : Kind) (c : Count) → (one_less kind c).screens ≡ c.screens - cond (counts_with VScreen kind) 1 0
one_less-screens Window c = omega arith
one_less-screens VScreen c = refl
one_less-screens _ c = omega arith

-- rows of kinds that don't pass aren't counted
rows_counted-none_pass : (client : ℕ) (test : Kind → Bool) → ((kind : Kind) → test kind ≡ false) → (rows : List Row) → rows_counted client test rows ≡ 0
rows_counted-none_pass client test none [] = refl
rows_counted-none_pass client test none (row ∷ rows) =
    let here = none row.kind in
    let rest = rows_counted-none_pass client test none rows in
    grind (arith, here, rest, rows_counted-cons client test row rows)

-- one of a client's numbers and how many of its rows pass a test stay the same together
module _ (number : Count → ℕ) (test : Kind → Bool) (client : ℕ) where
  number-gained : ((kind : Kind) (c : Count) → number (one_more kind c) ≡ number c + cond (test kind) 1 0) → (counts : List Count) (rows : List Row) (row : Row) → row.client < length counts → number (count_in counts client) ≡ rows_counted client test rows → number (count_in (gained row.client row.kind counts) client) ≡ rows_counted client test (rows ++ row ∷ [])
  number-gained more counts rows row within same =
      ap number (count_in-set counts row.client client (one_more row.kind (count_in counts row.client)) within) ∙ by (nat_eq client row.client) refl ∙ sym (rows_counted-push client test rows row)
    where
      by : (b : Bool) → nat_eq client row.client ≡ b → number (cond b (one_more row.kind (count_in counts row.client)) (count_in counts client)) ≡ rows_counted client test rows + cond (b && test row.kind) 1 0
      by true p =
          let mine : number (count_in counts row.client) ≡ rows_counted client test rows = rw (← eqb-true client row.client p) same in
          more row.kind (count_in counts row.client) ∙ rw mine refl
      by false p = omega (arith, same)

  number-lost : ((kind : Kind) (c : Count) → number (one_less kind c) ≡ number c - cond (test kind) 1 0) → (counts : List Count) (es : List (ℕ × Row)) (id : ℕ) (row : Row) → row.client < length counts → HaveOwnNumbers (nodes es) → row_at es id ≡ Some row → number (count_in counts client) ≡ rows_counted client test (rows_in es) → number (count_in (lost row.client row.kind counts) client) ≡ rows_counted client test (rows_in (without_row id es))
  number-lost less counts es id row within own there same =
      ap number (count_in-set counts row.client client (one_less row.kind (count_in counts row.client)) within) ∙ by (nat_eq client row.client) refl (rows_counted-without_row client test es id row own there)
    where
      by : (b : Bool) → nat_eq client row.client ≡ b → rows_counted client test (rows_in es) ≡ cond (b && test row.kind) 1 0 + rows_counted client test (rows_in (without_row id es)) → number (cond b (one_less row.kind (count_in counts row.client)) (count_in counts client)) ≡ rows_counted client test (rows_in (without_row id es))
      by true p h =
          let mine : number (count_in counts row.client) ≡ rows_counted client test (rows_in es) = rw (← eqb-true client row.client p) same in
          omega (arith, less row.kind (count_in counts row.client), mine, h)
      by false p h = omega (arith, same, h)

  number-forgotten : number no_count ≡ 0 → (counts : List Count) (rows : List Row) (gone : ℕ) → gone < length counts → number (count_in counts client) ≡ rows_counted client test rows → number (count_in (forgotten gone counts) client) ≡ rows_counted client test (rows_of_others gone rows)
  number-forgotten none counts rows gone within same =
      ap number (count_in-set counts gone client no_count within) ∙ by (nat_eq client gone) ∙ sym (rows_counted-others client test rows gone)
    where
      by : (b : Bool) → number (cond b no_count (count_in counts client)) ≡ cond b 0 (rows_counted client test rows)
      by true = none
      by false = same

-- the counts after each change
pub AreCounts-none : AreCounts no_counts []
AreCounts-none =
    record {
      slots = length-replicate 17 no_count;
      widgets = λ client within. rw (get_or-replicate 17 client no_count no_count within) refl;
      windows = λ client within. rw (get_or-replicate 17 client no_count no_count within) refl;
      screens = λ client within. rw (get_or-replicate 17 client no_count no_count within) refl;
    }

pub AreCounts-gain : (counts : List Count) (rows : List Row) (row : Row) → row.client < 17 → AreCounts counts rows → AreCounts (gained row.client row.kind counts) (rows ++ row ∷ [])
AreCounts-gain counts rows row within right =
    let inside : row.client < length counts = omega (arith, right.slots) in
    record {
      slots = length-set counts row.client (one_more row.kind (count_in counts row.client)) ∙ right.slots;
      widgets = λ client w. number-gained (λ c. c.widgets) any_kind client one_more-widgets counts rows row inside (right.widgets client w);
      windows = λ client w. number-gained (λ c. c.windows) (counts_with Window) client one_more-windows counts rows row inside (right.windows client w);
      screens = λ client w. number-gained (λ c. c.screens) (counts_with VScreen) client one_more-screens counts rows row inside (right.screens client w);
    }

pub AreCounts-lose : (counts : List Count) (es : List (ℕ × Row)) (id : ℕ) (row : Row) → row.client < 17 → HaveOwnNumbers (nodes es) → row_at es id ≡ Some row → AreCounts counts (rows_in es) → AreCounts (lost row.client row.kind counts) (rows_in (without_row id es))
AreCounts-lose counts es id row within own there right =
    let inside : row.client < length counts = omega (arith, right.slots) in
    record {
      slots = length-set counts row.client (one_less row.kind (count_in counts row.client)) ∙ right.slots;
      widgets = λ client w. number-lost (λ c. c.widgets) any_kind client one_less-widgets counts es id row inside own there (right.widgets client w);
      windows = λ client w. number-lost (λ c. c.windows) (counts_with Window) client one_less-windows counts es id row inside own there (right.windows client w);
      screens = λ client w. number-lost (λ c. c.screens) (counts_with VScreen) client one_less-screens counts es id row inside own there (right.screens client w);
    }

pub AreCounts-forget : (counts : List Count) (rows : List Row) (client : ℕ) → client < 17 → AreCounts counts rows → AreCounts (forgotten client counts) (rows_of_others client rows)
AreCounts-forget counts rows gone within right =
    let inside : gone < length counts = omega (arith, right.slots) in
    record {
      slots = length-set counts gone no_count ∙ right.slots;
      widgets = λ client w. number-forgotten (λ c. c.widgets) any_kind client refl counts rows gone inside (right.widgets client w);
      windows = λ client w. number-forgotten (λ c. c.windows) (counts_with Window) client refl counts rows gone inside (right.windows client w);
      screens = λ client w. number-forgotten (λ c. c.screens) (counts_with VScreen) client refl counts rows gone inside (right.screens client w);
    }

-- a change of the named row that leaves what names it and its kind
pub AreCounts-with_named : (counts : List Count) (rows : List Row) (client : ℕ) (name : List ℕ) (change : Row → Row) → LeavesNode change → AreCounts counts rows → AreCounts counts (with_named client name change rows)
AreCounts-with_named counts rows client name change leaves right =
    record {
      slots = right.slots;
      widgets = λ owner within. right.widgets owner within ∙ same owner any_kind;
      windows = λ owner within. right.windows owner within ∙ same owner (counts_with Window);
      screens = λ owner within. right.screens owner within ∙ same owner (counts_with VScreen);
    }
  where
    same : (owner : ℕ) (test : Kind → Bool) → rows_counted owner test rows ≡ rows_counted owner test (with_named client name change rows)
    same owner test = sym (rows_counted-map owner test rows (changed client name change) (LeavesNode-changed client name change leaves))

-- what `has` answers is how many rows are counted
pub number_alike-rows_counted : (counts : List Count) (rows : List Row) (client : ℕ) (alike : Option Kind) → client < 17 → AreCounts counts rows → number_alike alike (count_in counts client) ≡ rows_counted client (counted alike) rows
number_alike-rows_counted counts rows client None within right = right.widgets client within
number_alike-rows_counted counts rows client (Some Window) within right = right.windows client within
number_alike-rows_counted counts rows client (Some VScreen) within right = right.screens client within
number_alike-rows_counted counts rows client (Some _) within right = sym (rows_counted-none_pass client _ (λ kind. refl) rows)

-- the client of a row has one to lose
pub has_one : (counts : List Count) (es : List (ℕ × Row)) (id : ℕ) (row : Row) (alike : Option Kind) → row.client < 17 → HaveOwnNumbers (nodes es) → row_at es id ≡ Some row → counted alike row.kind ≡ true → AreCounts counts (rows_in es) → 0 < number_alike alike (count_in counts row.client)
has_one counts es id row alike within own there passes right =
    let self : nat_eq row.client row.client ≡ true = nat_eq_equiv.refl row.client in
    let found : rows_counted row.client (counted alike) (rows_in es) ≡ 1 + rows_counted row.client (counted alike) (rows_in (without_row id es)) = rows_counted-without_row row.client (counted alike) es id row own there ∙ rw (self, passes) refl in
    omega (arith, found, number_alike-rows_counted counts (rows_in es) row.client alike within right)
