-- The index of names: what is found under a name after a row is put last, and after rows are taken out.
use Rattle.std.proofs.Common.{◌≡◌, ℕ, Bool, true, false, cond, not, nat_eq, List, [], ◌∷◌, ◌++◌, Option, Some, None, refl, sym, ap, ◌∙◌, arith}
use Rattle.std.proofs.lemmas.Bool.{eqb-true}
use Rattle.std.proofs.lemmas.Bool.Decides.{nat_tests}
use Rattle.std.specs.Cmp.{nat_eq_equiv}
use Rattle.std.specs.Cmp.Lexicographic.{nat_list_eq_equiv}
use Rattle.std.specs.List.{filter}
use Rattle.std.specs.Map.{lookup}
use Rattle.widget_model.specs.Rows.{Row}
use Rattle.widget_model.specs.Keys.{same_key}
use Rattle.widget_model.specs.Nodes.{Node, is_named, id_named}
use Rattle.widget_model.specs.Named.{has_name, AreNamedApart}
use Rattle.widget_model.specs.Widgets.{row_at, without_row, nodes, rows_in}
use Rattle.widget_model.specs.Forest.{HaveOwnNumbers}
use Rattle.widget_model.proofs.Naming.{has_name-parts, id_named-none, id_named-row}
use Rattle.row_store.specs.Index.{IsIndexed}
use Rattle.row_store.proofs.UnderNumbers.{row_at-absent, without_row-absent}

-- the last one is found where no other is
abbrev pub or_last : {X : Type 0} → Option X → Bool → X → Option X
or_last (Some x) b y = Some x
or_last None true y = Some y
or_last None false y = None

pub id_named-push : (es : List (ℕ × Node)) (e : ℕ × Node) (client : ℕ) (name : List ℕ) → id_named (es ++ e ∷ []) client name ≡ or_last (id_named es client name) (is_named client name e.1) e.0
id_named-push [] e client name = grind arith
id_named-push (f ∷ fs) e client name = grind (arith, id_named-push fs e client name)

lookup-push : (test : ℕ × List ℕ → Bool) (es : List ((ℕ × List ℕ) × ℕ)) (e : (ℕ × List ℕ) × ℕ) → lookup test (es ++ e ∷ []) ≡ or_last (lookup test es) (test e.0) e.1
lookup-push test [] e = grind arith
lookup-push test (f ∷ fs) e = grind (arith, lookup-push test fs e)

pub IsIndexed-push : (names : List ((ℕ × List ℕ) × ℕ)) (es : List (ℕ × Node)) (id : ℕ) (node : Node) → IsIndexed names es → IsIndexed (names ++ ((node.client, node.name), id) ∷ []) (es ++ (id, node) ∷ [])
IsIndexed-push names es id node kept =
    record {
      finds = λ client name.
          lookup-push (same_key (client, name)) names ((node.client, node.name), id)
          ∙ ap (λ (found : Option ℕ). or_last found (is_named client name node) id) (kept.finds client name)
          ∙ sym (id_named-push es (id, node) client name);
    }

-- with one row its name is gone, and no other
pub id_named-without : (es : List (ℕ × Row)) (id : ℕ) (row : Row) (client : ℕ) (name : List ℕ) → HaveOwnNumbers (nodes es) → AreNamedApart (rows_in es) → row_at es id ≡ Some row → id_named (nodes (without_row id es)) client name ≡ cond (has_name client name row) None (id_named (nodes es) client name)
id_named-without [] id row client name numbers names there = absurd (cc)
id_named-without (e ∷ es) id row client name numbers names there = by (nat_eq id e.0) refl (has_name client name e.1) refl there (id_named-without es id row client name numbers.1 names.1)
  where
    named_once : has_name client name e.1 ≡ true → id_named (nodes es) client name ≡ None
    named_once named = let parts = has_name-parts client name e.1 named in rw (← parts.0, ← parts.1) (id_named-none es e.1.client e.1.name names.0)

    apart : has_name client name e.1 ≡ true → row_at es id ≡ Some row → (b : Bool) → has_name client name row ≡ b → b ≡ false
    apart named there false q = refl
    apart named there true q =
        let parts = has_name-parts client name row q in
        let none : id_named (nodes es) row.client row.name ≡ None = rw (parts.0, parts.1) (named_once named) in
        absurd (let found = id_named-row es id row names.1 there in cc)

    by : (b : Bool) → nat_eq id e.0 ≡ b → (t : Bool) → has_name client name e.1 ≡ t → cond b (Some e.1) (row_at es id) ≡ Some row → (row_at es id ≡ Some row → id_named (nodes (without_row id es)) client name ≡ cond (has_name client name row) None (id_named (nodes es) client name)) → id_named (nodes (cond b (without_row id es) (e ∷ without_row id es))) client name ≡ cond (has_name client name row) None (cond t (Some e.0) (id_named (nodes es) client name))
    by true q t named h rest =
        let same : e.1 ≡ row = cc in
        let absent : row_at es id ≡ None = row_at-absent es id (rw (eqb-true id e.0 q) numbers.0) in
        rw (without_row-absent es id absent, ← same, named) (first t named)
      where
        first : (t : Bool) → has_name client name e.1 ≡ t → id_named (nodes es) client name ≡ cond t None (cond t (Some e.0) (id_named (nodes es) client name))
        first true named = named_once named
        first false named = refl
    by false q true named h rest = rw (named, apart named h (has_name client name row) refl) refl
    by false q false named h rest = rw named (rest h)

-- with a client its names are gone, and no others
pub id_named-others : (es : List (ℕ × Row)) (gone client : ℕ) (name : List ℕ) → id_named (nodes (filter (λ (e : ℕ × Row). not (nat_eq gone e.1.client)) es)) client name ≡ cond (nat_eq gone client) None (id_named (nodes es) client name)
id_named-others [] gone client name = grind arith
id_named-others (e ∷ es) gone client name = grind (arith, nat_tests, id_named-others es gone client name)

lookup-others : (names : List ((ℕ × List ℕ) × ℕ)) (gone client : ℕ) (name : List ℕ) → lookup (same_key (client, name)) (filter (λ (e : (ℕ × List ℕ) × ℕ). not (nat_eq gone e.0.0)) names) ≡ cond (nat_eq gone client) None (lookup (same_key (client, name)) names)
lookup-others [] gone client name = grind arith
lookup-others (e ∷ es) gone client name = grind (arith, nat_tests, lookup-others es gone client name)

-- the index after one name, or all names of a client, are taken out with their rows
pub IsIndexed-without_row : (names rest : List ((ℕ × List ℕ) × ℕ)) (es : List (ℕ × Row)) (id : ℕ) (row : Row) → IsIndexed names (nodes es) → HaveOwnNumbers (nodes es) → AreNamedApart (rows_in es) → row_at es id ≡ Some row → ((key : ℕ × List ℕ) → lookup (same_key key) rest ≡ cond (same_key (row.client, row.name) key) None (lookup (same_key key) names)) → IsIndexed rest (nodes (without_row id es))
IsIndexed-without_row names rest es id row indexed numbers own there left =
    record { finds = λ client name. left (client, name) ∙ rw (nat_eq_equiv.symm row.client client, nat_list_eq_equiv.symm row.name name, indexed.finds client name) (sym (id_named-without es id row client name numbers own there)) }

pub IsIndexed-others : (names : List ((ℕ × List ℕ) × ℕ)) (es : List (ℕ × Row)) (gone : ℕ) → IsIndexed names (nodes es) → IsIndexed (filter (λ (e : (ℕ × List ℕ) × ℕ). not (nat_eq gone e.0.0)) names) (nodes (filter (λ (e : ℕ × Row). not (nat_eq gone e.1.client)) es))
IsIndexed-others names es gone indexed =
    record { finds = λ client name. lookup-others names gone client name ∙ ap (cond (nat_eq gone client) None) (indexed.finds client name) ∙ sym (id_named-others es gone client name) }
