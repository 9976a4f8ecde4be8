-- From keys to numbers: where a widget's key is among some, as those of what the pointer holds, its number is among theirs.
use Rattle.std.proofs.Common.{◌≡◌, ℕ, Bool, true, false, ◌||◌, nat_eq, List, ◌++◌, Option, Some, None, refl, sym, ap, ◌∙◌}
use Rattle.std.proofs.Math.Bool.{or-true, or-false}
use Rattle.std.proofs.lemmas.Bool.{true≢false, eq-eqb}
use Rattle.std.proofs.lemmas.List.Folds.{list_any-append}
use Rattle.std.specs.List.{list_any}
use Rattle.std.specs.Option.{option_map, option_map_or, option_and_then}
use Rattle.widget_model.specs.Named.{AreNamedApart}
use Rattle.widget_model.specs.Rows.{Row}
use Rattle.widget_model.specs.Keys.{key_of, same_key}
use Rattle.widget_model.specs.Nodes.{id_named}
use Rattle.widget_model.specs.Widgets.{nodes, row_at, key_at, rows_in}
use Rattle.widget_model.specs.Pointer.{on_widget, drags, no_grab}
use Rattle.widget_model.proofs.Naming.{id_named-row}
use Rattle.tree_core.specs.declared.id.Id.{Id}
use Rattle.tree_core.specs.declared.pointer.Grab.{Grab}
use Rattle.tree_core.specs.declared.pointer.Grab.TheVariants.{Nothing, Widget, Drag}
use Rattle.tree_core.specs.declared.pointer.Pointer.{Pointer}
use Rattle.tree_core.specs.Holds.{grab_seen, pointer_seen}
use Rattle.scene_core.proofs.Finds.{same_key-true}
use Rattle.desk_model.specs.Feeding.{grabbed}
use Rattle.desk_model.specs.Scope.{is_among, keys_in, held_keys}
use Rattle.touch_rules.specs.Telling.{numbers_in, grabbed_number, held_numbers}

-- the key of a list of one
pub among-one : (keys : Option (ℕ × List ℕ)) (key : ℕ × List ℕ) → is_among (keys_in keys) key ≡ true → keys ≡ Some key
among-one None key among = absurd (true≢false (sym among))
among-one (Some one) key among = ap Some (sym (same_key-true key one (sym (or-false (same_key key one)) ∙ among)))

pub number-one : (numbers : Option ℕ) (id : ℕ) → numbers ≡ Some id → list_any (nat_eq id) (numbers_in numbers) ≡ true
number-one None id is = absurd (cc)
number-one (Some one) id is = let same : one ≡ id = cc in ap (λ (b : Bool). b || false) (eq-eqb id one (sym same))

-- the number of a key
key_at-number : (es : List (ℕ × Row)) (number id : ℕ) (row : Row) → AreNamedApart (rows_in es) → row_at es id ≡ Some row → key_at es number ≡ Some (key_of row) → number ≡ id
key_at-number es number id row names there key = by (row_at es number) refl key
  where
    by : (o : Option Row) → row_at es number ≡ o → option_map key_of o ≡ Some (key_of row) → number ≡ id
    by None e key = absurd (cc)
    by (Some other) e key =
        let same : key_of other ≡ key_of row = cc in
        let one : Some number ≡ Some id =
        sym (id_named-row es number other names e) ∙ ap (λ (k : ℕ × List ℕ). id_named (nodes es) k.0 k.1) same ∙ id_named-row es id row names there in
        cc

-- The number of a widget is in a list of one where its key is.
pub number-among : (es : List (ℕ × Row)) (number : Option ℕ) (id : ℕ) (row : Row) → AreNamedApart (rows_in es) → row_at es id ≡ Some row → is_among (keys_in (option_and_then (key_at es) number)) (key_of row) ≡ true → list_any (nat_eq id) (numbers_in number) ≡ true
number-among es None id row names there among = absurd (true≢false (sym among))
number-among es (Some number) id row names there among = number-one (Some number) id (ap Some (key_at-number es number id row names there (among-one (key_at es number) (key_of row) among)))

-- What passes the test in one part passes it in the whole.
pub any-first : {X : Type 0} (p : X → Bool) (xs ys : List X) → list_any p xs ≡ true → list_any p (xs ++ ys) ≡ true
any-first p xs ys there = list_any-append p xs ys ∙ ap (λ (b : Bool). b || list_any p ys) there

pub any-second : {X : Type 0} (p : X → Bool) (xs ys : List X) → list_any p ys ≡ true → list_any p (xs ++ ys) ≡ true
any-second p xs ys there = list_any-append p xs ys ∙ ap (λ (b : Bool). list_any p xs || b) there ∙ or-true (list_any p xs)

-- So the numbers of all keys are there where those of each part are.
pub among-either : {X Y : Type 0} (p : X → Bool) (q : Y → Bool) (xs xs' : List X) (ys ys' : List Y) → (list_any p xs ≡ true → list_any q ys ≡ true) → (list_any p xs' ≡ true → list_any q ys' ≡ true) → list_any p (xs ++ xs') ≡ true → list_any q (ys ++ ys') ≡ true
among-either p q xs xs' ys ys' one two among = by (list_any p xs) refl (sym (list_any-append p xs xs') ∙ among)
  where
    by : (b : Bool) → list_any p xs ≡ b → (list_any p xs || list_any p xs') ≡ true → list_any q (ys ++ ys') ≡ true
    by true e either = any-first q ys ys' (one e)
    by false e either = any-second q ys ys' (two (ap (λ (b : Bool). b || list_any p xs') (sym e) ∙ either))

grabbed-number : (es : List (ℕ × Row)) (grab : Grab) → grabbed (grab_seen es grab) ≡ option_and_then (key_at es) (grabbed_number grab)
grabbed-number es Nothing = refl
grabbed-number es (Widget id) = by (key_at es id.key)
  where
    by : (o : Option (ℕ × List ℕ)) → grabbed (option_map_or on_widget o no_grab) ≡ o
    by None = refl
    by (Some key) = refl
grabbed-number es (Drag id dx dy) = by (key_at es id.key)
  where
    by : (o : Option (ℕ × List ℕ)) → grabbed (option_map_or (λ key. drags key dx dy) o no_grab) ≡ o
    by None = refl
    by (Some key) = refl

focus-number : (es : List (ℕ × Row)) (focus : Option Id) → option_and_then (λ (id : Id). key_at es id.key) focus ≡ option_and_then (key_at es) (option_map (λ (id : Id). id.key) focus)
focus-number es None = refl
focus-number es (Some id) = refl

-- what the pointer holds
pub held-among : (es : List (ℕ × Row)) (pointer : Pointer) (id : ℕ) (row : Row) → AreNamedApart (rows_in es) → row_at es id ≡ Some row → is_among (held_keys (pointer_seen es pointer)) (key_of row) ≡ true → list_any (nat_eq id) (held_numbers pointer) ≡ true
held-among es pointer id row names there among =
    among-either (same_key (key_of row)) (nat_eq id)
    (keys_in (option_and_then (key_at es) (grabbed_number pointer.grab))) (keys_in (option_and_then (key_at es) (option_map (λ (id : Id). id.key) pointer.focus)))
    (numbers_in (grabbed_number pointer.grab)) (numbers_in (option_map (λ (id : Id). id.key) pointer.focus))
    (number-among es (grabbed_number pointer.grab) id row names there)
    (number-among es (option_map (λ (id : Id). id.key) pointer.focus) id row names there)
    (ap (λ (o : Option (ℕ × List ℕ)). is_among (keys_in o ++ keys_in (option_and_then (key_at es) (option_map (λ (id : Id). id.key) pointer.focus))) (key_of row)) (sym (grabbed-number es pointer.grab))
    ∙ ap (λ (o : Option (ℕ × List ℕ)). is_among (keys_in (grabbed (grab_seen es pointer.grab)) ++ keys_in o) (key_of row)) (sym (focus-number es pointer.focus))
    ∙ among)
