-- The shares of a client's own VScreens come from its own rows: each admission takes the share of one of them.
use Rattle.std.proofs.Common.{◌≡◌, ℕ, zero, suc, ◌+◌, Bool, true, false, cond, ◌&&◌, ◌||◌, not, nat_eq, List, [], ◌∷◌, Option, Some, None, refl, sym, ap, ◌∙◌, slice_get, arith}
use Rattle.std.proofs.lemmas.Bool.{true≢false, eqb-true, and_parts, cond-true}
use Rattle.std.proofs.lemmas.List.Sums.{sum_by-cons}
use Rattle.std.specs.Cmp.{nat_eq_equiv}
use Rattle.std.specs.Cmp.Lexicographic.{nat_list_eq_equiv}
use Rattle.std.specs.List.{filter, list_all, list_any, sum_by}
use Rattle.std.specs.Option.{option_map_or}
use Rattle.std.specs.Str.{bytes_eq}
use Rattle.widget_model.specs.Rows.{Row}
use Rattle.widget_model.specs.Named.{has_name, row_named, own_rows, AreNamedApart}
use Rattle.widget_model.specs.Trees.{is_admitted}
use Rattle.widget_model.proofs.Hanging.{all_at, none_at, IsNamed-from, IsNamed-row_named}
use Rattle.desk_model.specs.Desk.{Admission, is_admission}
use Rattle.desk_model.specs.Screens.{other_admissions, shares_of}
use Rattle.desk_model.specs.DeskFacts.{AreAdmittedOnce, has_its_share, is_listed, IsRosterOf}
use Rattle.desk_model.specs.OwnPart.{admissions_of_others}
use Rattle.desk_model.proofs.Rosters.{share_in, has_share, film_in, has_share-aside, share_in-none}

-- sums of the same terms, of nothing, and of two terms each
sum_by-same : {X : Type 0} (f g : X → ℕ) (xs : List X) → ((i : ℕ) (x : X) → slice_get xs i ≡ Some x → f x ≡ g x) → sum_by f xs ≡ sum_by g xs
sum_by-same f g [] each = refl
sum_by-same f g (x ∷ xs) each = omega (arith, sum_by-cons f x xs, sum_by-cons g x xs, each zero x refl, sum_by-same f g xs (λ i y there. each (suc i) y there))

sum_by-none : {X : Type 0} (f : X → ℕ) (xs : List X) → ((i : ℕ) (x : X) → slice_get xs i ≡ Some x → f x ≡ 0) → sum_by f xs ≡ 0
sum_by-none f [] each = refl
sum_by-none f (x ∷ xs) each = omega (arith, sum_by-cons f x xs, each zero x refl, sum_by-none f xs (λ i y there. each (suc i) y there))

sum_by-plus : {X : Type 0} (f g whole : X → ℕ) (xs : List X) → ((i : ℕ) (x : X) → slice_get xs i ≡ Some x → whole x ≡ f x + g x) → sum_by whole xs ≡ sum_by f xs + sum_by g xs
sum_by-plus f g whole [] each = omega arith
sum_by-plus f g whole (x ∷ xs) each = omega (arith, sum_by-cons f x xs, sum_by-cons g x xs, sum_by-cons whole x xs, each zero x refl, sum_by-plus f g whole xs (λ i y there. each (suc i) y there))

-- what is left out adds nothing
sum_by-filter : {X : Type 0} (f : X → ℕ) (p : X → Bool) (xs : List X) → ((x : X) → p x ≡ false → f x ≡ 0) → sum_by f (filter p xs) ≡ sum_by f xs
sum_by-filter f p [] each = refl
sum_by-filter f p (x ∷ xs) each = by (sum_by-filter f p xs each) (p x) refl
  where
    by : sum_by f (filter p xs) ≡ sum_by f xs → (b : Bool) → p x ≡ b → sum_by f (cond b (x ∷ filter p xs) (filter p xs)) ≡ sum_by f (x ∷ xs)
    by rest true stays = omega (arith, rest, sum_by-cons f x xs, sum_by-cons f x (filter p xs))
    by rest false goes = omega (arith, rest, sum_by-cons f x xs, each x goes)

-- where no two rows have one name, the sum over those of a name is of one row
sum_by-named : (rows : List Row) (client : ℕ) (name : List ℕ) (row : Row) (f : Row → ℕ) → AreNamedApart rows → row_named rows client name ≡ Some row → sum_by (λ (row : Row). cond (has_name client name row) (f row) 0) rows ≡ f row
sum_by-named [] client name row f apart found = absurd (cc)
sum_by-named (first ∷ rows) client name row f apart found = by (has_name client name first) refl (sum_by-named rows client name row f apart.1) found
  where
    one : Row → ℕ
    one row = cond (has_name client name row) (f row) 0

    by : (b : Bool) → has_name client name first ≡ b → (row_named rows client name ≡ Some row → sum_by one rows ≡ f row) → cond b (Some first) (row_named rows client name) ≡ Some row → sum_by one (first ∷ rows) ≡ f row
    by true named rest h =
        let same : first ≡ row = cc in
        let is = IsNamed-from client name first named in
        let none : list_any (has_name client name) rows ≡ false = rw (← is.client_is, ← is.name_is) apart.0 in
        let zeros : sum_by one rows ≡ 0 = sum_by-none one rows (λ i other there. ap (λ (b : Bool). cond b (f other) 0) (none_at (has_name client name) rows i other none there)) in
        let here : one first ≡ f row = cond-true (has_name client name first) (f first) 0 named ∙ ap f same in
        omega (arith, sum_by-cons one first rows, zeros, here)
    by false named rest h =
        let here : one first ≡ 0 = ap (λ (b : Bool). cond b (f first) 0) named in
        omega (arith, sum_by-cons one first rows, rest h, here)

-- whether a name is the client's, and another than that
abbrev is_other_own : ℕ → List ℕ → ℕ → List ℕ → Bool
is_other_own client name owner other = nat_eq client owner && not (bytes_eq name other)

-- the share of such an admission, and what is set aside for such a row
abbrev own_share : ℕ → List ℕ → Admission → ℕ
own_share client name admission = cond (is_other_own client name admission.client admission.name) admission.share 0

abbrev own_aside : ℕ → List ℕ → Row → ℕ
own_aside client name row = cond (is_other_own client name row.client row.name) (option_map_or (λ share. share) (share_in row) 0) 0

own_aside-none : (client : ℕ) (name : List ℕ) (row : Row) → share_in row ≡ None → own_aside client name row ≡ 0
own_aside-none client name row none = ap (λ (o : Option ℕ). cond (is_other_own client name row.client row.name) (option_map_or (λ share. share) o 0) 0) none ∙ by (is_other_own client name row.client row.name)
  where
    nothing : ℕ
    nothing = 0

    by : (b : Bool) → cond b nothing nothing ≡ nothing
    by true = refl
    by false = refl

-- an admission has what is set aside for its row
own_aside-named : (client : ℕ) (name : List ℕ) (row : Row) (admission : Admission) → row.client ≡ admission.client → row.name ≡ admission.name → has_share admission.share row.film ≡ true → own_aside client name row ≡ own_share client name admission
own_aside-named client name row admission client_is name_is has =
    rw (client_is, name_is) (ap (λ (share : ℕ). cond (is_other_own client name admission.client admission.name) share 0) (by (share_in row) (sym (has_share-aside admission.share row.film) ∙ has)))
  where
    by : (o : Option ℕ) → option_map_or (nat_eq admission.share) o false ≡ true → option_map_or (λ share. share) o 0 ≡ admission.share
    by None h = absurd (true≢false (sym h))
    by (Some share) h = sym (eqb-true admission.share share h)

-- the same of a row that has one of these admissions
abbrev aside_among : ℕ → List ℕ → List Admission → Row → ℕ
aside_among client name roster row = cond (list_any (is_admission row.client row.name) roster) (own_aside client name row) 0

along-roster : (client : ℕ) (name : List ℕ) (rows : List Row) (roster : List Admission) → AreNamedApart rows → AreAdmittedOnce roster → list_all (has_its_share rows) roster ≡ true → sum_by (own_share client name) roster ≡ sum_by (aside_among client name roster) rows
along-roster client name rows [] apart once shares = sym (sum_by-none (aside_among client name []) rows (λ i row there. refl))
along-roster client name rows (admission ∷ roster) apart once shares =
    omega (arith, sum_by-cons (own_share client name) admission roster, along-roster client name rows roster apart once.1 parts.1, split, by (row_named rows admission.client admission.name) refl parts.0)
  where
    parts : (has_its_share rows admission ≡ true) × (list_all (has_its_share rows) roster ≡ true)
    parts = and_parts (has_its_share rows admission) (list_all (has_its_share rows) roster) shares

    first : Row → ℕ
    first row = cond (has_name admission.client admission.name row) (own_aside client name row) 0

    turned : (row : Row) → is_admission row.client row.name admission ≡ has_name admission.client admission.name row
    turned row = rw (nat_eq_equiv.symm row.client admission.client, nat_list_eq_equiv.symm row.name admission.name) refl

    each : (row : Row) (b : Bool) → has_name admission.client admission.name row ≡ b → aside_among client name (admission ∷ roster) row ≡ cond b (own_aside client name row) 0 + aside_among client name roster row
    each row true named =
        let is = IsNamed-from admission.client admission.name row named in
        let here : is_admission row.client row.name admission ≡ true = turned row ∙ named in
        let none : list_any (is_admission row.client row.name) roster ≡ false = rw (is.client_is, is.name_is) once.0 in
        let first_is : aside_among client name (admission ∷ roster) row ≡ own_aside client name row = ap (λ (b : Bool). cond (b || list_any (is_admission row.client row.name) roster) (own_aside client name row) 0) here in
        let rest_is : aside_among client name roster row ≡ 0 = ap (λ (b : Bool). cond b (own_aside client name row) 0) none in
        omega (arith, first_is, rest_is)
    each row false named =
        let here : is_admission row.client row.name admission ≡ false = turned row ∙ named in
        let first_is : aside_among client name (admission ∷ roster) row ≡ aside_among client name roster row = ap (λ (b : Bool). cond (b || list_any (is_admission row.client row.name) roster) (own_aside client name row) 0) here in
        omega (arith, first_is)

    split : sum_by (aside_among client name (admission ∷ roster)) rows ≡ sum_by first rows + sum_by (aside_among client name roster) rows
    split = sum_by-plus first (aside_among client name roster) (aside_among client name (admission ∷ roster)) rows (λ i row there. each row (has_name admission.client admission.name row) refl)

    by : (o : Option Row) → row_named rows admission.client admission.name ≡ o → has_share admission.share (film_in o) ≡ true → sum_by first rows ≡ own_share client name admission
    by None found has = absurd (true≢false (sym has))
    by (Some row) found has =
        let is = IsNamed-row_named rows admission.client admission.name row found in
        sum_by-named rows admission.client admission.name row (own_aside client name) apart found ∙ own_aside-named client name row admission is.client_is is.name_is has

-- so its own shares together are what is set aside for its own rows
own_shares-rows : (client : ℕ) (name : List ℕ) (limit : ℕ) (rows : List Row) (roster : List Admission) → AreNamedApart rows → IsRosterOf limit rows roster → sum_by (own_share client name) roster ≡ sum_by (own_aside client name) (own_rows client rows)
own_shares-rows client name limit rows roster apart kept =
    along-roster client name rows roster apart kept.once kept.shares
    ∙ sum_by-same (aside_among client name roster) (own_aside client name) rows (λ i row there. by row (list_any (is_admission row.client row.name) roster) (all_at (is_listed roster) rows i row kept.all there))
    ∙ sym (sum_by-filter (own_aside client name) (λ (row : Row). nat_eq client row.client) rows (λ row other. ap (λ (b : Bool). cond (b && not (bytes_eq name row.name)) (option_map_or (λ share. share) (share_in row) 0) 0) other))
  where
    free : (b : Bool) → (not b || false) ≡ true → b ≡ false
    free true h = absurd (true≢false (sym h))
    free false h = refl

    by : (row : Row) (listed : Bool) → (not (is_admitted row) || listed) ≡ true → cond listed (own_aside client name row) 0 ≡ own_aside client name row
    by row true h = refl
    by row false h = sym (own_aside-none client name row (share_in-none row (free (is_admitted row) h)))

-- the shares of all other VScreens are the client's own ones and those of the others
other_shares-split : (client : ℕ) (name : List ℕ) (roster : List Admission) → shares_of (other_admissions client name roster) ≡ sum_by (own_share client name) roster + shares_of (admissions_of_others client roster)
other_shares-split client name [] = omega arith
other_shares-split client name (admission ∷ roster) = by (other_shares-split client name roster) (nat_eq client admission.client) (bytes_eq name admission.name) refl refl
  where
    share : Admission → ℕ
    share admission = admission.share

    others : List Admission
    others = other_admissions client name roster

    apart : List Admission
    apart = admissions_of_others client roster

    by : shares_of others ≡ sum_by (own_share client name) roster + shares_of apart → (own named : Bool) → nat_eq client admission.client ≡ own → bytes_eq name admission.name ≡ named
        → shares_of (cond (not (own && named)) (admission ∷ others) others) ≡ sum_by (own_share client name) (admission ∷ roster) + shares_of (cond (not own) (admission ∷ apart) apart)
    by rest own named is_own is_named = inside rest own named (sum_by-cons (own_share client name) admission roster ∙ rw (is_own, is_named) refl)
      where
        inside : shares_of others ≡ sum_by (own_share client name) roster + shares_of apart → (own named : Bool) → sum_by (own_share client name) (admission ∷ roster) ≡ cond (own && not named) admission.share 0 + sum_by (own_share client name) roster
            → shares_of (cond (not (own && named)) (admission ∷ others) others) ≡ sum_by (own_share client name) (admission ∷ roster) + shares_of (cond (not own) (admission ∷ apart) apart)
        inside rest true true here = omega (arith, rest, here)
        inside rest true false here = omega (arith, rest, here, sum_by-cons share admission others)
        inside rest false named here = omega (arith, rest, here, sum_by-cons share admission others, sum_by-cons share admission apart)

-- Where the client's own rows are the same, and the others' shares together, so are the shares of all but one VScreen of
-- the client.
pub other_shares-agree : (client : ℕ) (name : List ℕ) (limit : ℕ) (one two : List Row) (first second : List Admission) → AreNamedApart one → AreNamedApart two → IsRosterOf limit one first → IsRosterOf limit two second → own_rows client one ≡ own_rows client two → shares_of (admissions_of_others client first) ≡ shares_of (admissions_of_others client second) → shares_of (other_admissions client name first) ≡ shares_of (other_admissions client name second)
other_shares-agree client name limit one two first second apart_one apart_two kept_one kept_two rows others =
    let own : sum_by (own_aside client name) (own_rows client one) ≡ sum_by (own_aside client name) (own_rows client two) = ap (λ (rows : List Row). sum_by (own_aside client name) rows) rows in
    omega (arith, other_shares-split client name first, other_shares-split client name second, own_shares-rows client name limit one first apart_one kept_one, own_shares-rows client name limit two second apart_two kept_two, own, others)
