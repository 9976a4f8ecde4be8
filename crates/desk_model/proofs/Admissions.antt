-- What holds of the roster when a VScreen is admitted, and when it leaves.
use Rattle.std.proofs.Common.{◌≡◌, ℕ, ◌+◌, ◌≤◌, Bool, true, false, cond, not, ◌||◌, List, [], ◌∷◌, ◌++◌, Option, Some, refl, ap, ◌∙◌, arith}
use Rattle.std.proofs.lemmas.Bool.{not-true, and_from, or_parts, or_from, or_left, or_right, cond-true}
use Rattle.std.proofs.lemmas.List.Folds.{list_all-map, list_any-append}
use Rattle.std.proofs.lemmas.List.Sums.{sum_by_push}
use Rattle.std.proofs.lemmas.Map.Views.{any-filter_same}
use Rattle.std.specs.Cmp.{nat_eq_equiv}
use Rattle.std.specs.Cmp.Lexicographic.{nat_list_eq_equiv}
use Rattle.std.specs.List.{list_all, list_any}
use Rattle.std.specs.Option.{option_map}
use Rattle.widget_model.specs.Rows.{Row}
use Rattle.widget_model.specs.Named.{has_name, row_named, with_named}
use Rattle.widget_model.specs.Trees.{is_admitted}
use Rattle.widget_model.proofs.Hanging.{find-passes, all_at, all_from, all-filter, LeavesNames, LeavesNames-changed, changed, IsNamed-from, row_named-map}
use Rattle.desk_model.specs.Desk.{Admission, is_admission}
use Rattle.desk_model.specs.Screens.{other_admissions, shares_of}
use Rattle.desk_model.specs.DeskFacts.{AreAdmittedOnce, has_its_share, is_listed, IsRosterOf}
use Rattle.desk_model.proofs.Rosters.{has_share, film_in, has_its_share-other, IsAdmissionOf-from}
use Rattle.widget_model.proofs.NewRows.{all-push}
use Rattle.desk_model.proofs.KeptOut.{AreAdmittedOnce-filter, shares_of-filter}
use Rattle.desk_model.proofs.KeptWindows.{none-left}

-- the named row is found changed
pub row_named-changed : (rows : List Row) (client : ℕ) (name : List ℕ) (row : Row) (change : Row → Row) → LeavesNames change → row_named rows client name ≡ Some row → row_named (with_named client name change rows) client name ≡ Some (change row)
row_named-changed rows client name row change leaves found =
    row_named-map rows (changed client name change) client name (LeavesNames-changed client name change leaves)
    ∙ ap (λ (o : Option Row). option_map (changed client name change) o) found
    ∙ ap Some (cond-true (has_name client name row) (change row) row (find-passes (has_name client name) rows row found))

-- the other admissions keep their shares
others_shares : (rows : List Row) (roster : List Admission) (client : ℕ) (name : List ℕ) (change : Row → Row) → LeavesNames change → list_all (has_its_share rows) roster ≡ true → list_all (has_its_share (with_named client name change rows)) (other_admissions client name roster) ≡ true
others_shares rows roster client name change leaves shares =
    all-filter (has_its_share (with_named client name change rows)) (λ (admission : Admission). not (is_admission client name admission)) roster
    (λ i admission there stays. has_its_share-other rows client name change admission leaves (not-true (is_admission client name admission) stays) ∙ all_at (has_its_share rows) roster i admission shares there)

-- another name is among them where it was in the roster
others_listed : (roster : List Admission) (client : ℕ) (name : List ℕ) (row : Row) → has_name client name row ≡ false → list_any (is_admission row.client row.name) (other_admissions client name roster) ≡ list_any (is_admission row.client row.name) roster
others_listed roster client name row differs =
    any-filter_same (is_admission row.client row.name) (λ (admission : Admission). not (is_admission client name admission)) true
    (λ admission named. let is = IsAdmissionOf-from row.client row.name admission named in rw (is.client_is, is.name_is, differs) refl) roster

-- each row is listed, where the changed one is and each of the others
all_listed : (rows : List Row) (roster later : List Admission) (client : ℕ) (name : List ℕ) (change : Row → Row) → ((row : Row) → has_name client name row ≡ true → is_listed later (change row) ≡ true) → ((row : Row) → has_name client name row ≡ false → is_listed roster row ≡ true → is_listed later row ≡ true) → list_all (is_listed roster) rows ≡ true → list_all (is_listed later) (with_named client name change rows) ≡ true
all_listed rows roster later client name change here others all =
    list_all-map (is_listed later) (changed client name change) rows ∙ all_from (λ (row : Row). is_listed later (changed client name change row)) rows (λ i row there. by row (has_name client name row) refl (all_at (is_listed roster) rows i row all there))
  where
    by : (row : Row) (b : Bool) → has_name client name row ≡ b → is_listed roster row ≡ true → is_listed later (cond b (change row) row) ≡ true
    by row true named listed = here row named
    by row false named listed = others row named listed

-- whichever is tested, two names are alike or not
pub is_admission-turned : (one two : Admission) → is_admission one.client one.name two ≡ is_admission two.client two.name one
is_admission-turned one two = rw (nat_eq_equiv.symm one.client two.client, nat_list_eq_equiv.symm one.name two.name) refl

AreAdmittedOnce-push : (roster : List Admission) (last : Admission) → AreAdmittedOnce roster → list_any (is_admission last.client last.name) roster ≡ false → AreAdmittedOnce (roster ++ last ∷ [])
AreAdmittedOnce-push [] last once new = (refl, tt)
AreAdmittedOnce-push (first ∷ roster) last once new =
    let apart = or_parts (is_admission last.client last.name first) (list_any (is_admission last.client last.name) roster) new in (
      list_any-append (is_admission first.client first.name) roster (last ∷ []) ∙ or_from _ _ once.0 (or_from _ _ (is_admission-turned first last ∙ apart.0) refl),
      AreAdmittedOnce-push roster last once.1 apart.1,
    )

-- The VScreen leaves: it isn't admitted any more, and the others are as they were.
pub IsRosterOf-leave : (limit : ℕ) (rows : List Row) (roster : List Admission) (client : ℕ) (name : List ℕ) (change : Row → Row) → LeavesNames change → ((row : Row) → is_admitted (change row) ≡ false) → IsRosterOf limit rows roster → IsRosterOf limit (with_named client name change rows) (other_admissions client name roster)
IsRosterOf-leave limit rows roster client name change leaves gone kept =
    record {
      shares = others_shares rows roster client name change leaves kept.shares;
      once = AreAdmittedOnce-filter (λ (admission : Admission). not (is_admission client name admission)) roster kept.once;
      all =
          all_listed rows roster (other_admissions client name roster) client name change
          (λ row named. or_left (not (is_admitted (change row))) _ (ap not (gone row)))
          (λ row differs listed. ap (λ (b : Bool). not (is_admitted row) || b) (others_listed roster client name row differs) ∙ listed)
          kept.all;
      within = omega (arith, kept.within, shares_of-filter (λ (admission : Admission). not (is_admission client name admission)) roster);
    }

-- It is admitted, last in order, with its film's share, which the others leave of the limit.
pub IsRosterOf-admit : (limit : ℕ) (rows : List Row) (roster : List Admission) (client : ℕ) (name : List ℕ) (row : Row) (change : Row → Row) (share : ℕ) → LeavesNames change → row_named rows client name ≡ Some row → has_share share (change row).film ≡ true → shares_of (other_admissions client name roster) + share ≤ limit → IsRosterOf limit rows roster → IsRosterOf limit (with_named client name change rows) (other_admissions client name roster ++ record { client = client; name = name; share = share } ∷ [])
IsRosterOf-admit limit rows roster client name row change share leaves found wanted fits kept =
    record {
      shares = all-push (has_its_share later) others last (others_shares rows roster client name change leaves kept.shares) (ap (λ (o : Option Row). has_share share (film_in o)) (row_named-changed rows client name row change leaves found) ∙ wanted);
      once = AreAdmittedOnce-push others last (AreAdmittedOnce-filter (λ (admission : Admission). not (is_admission client name admission)) roster kept.once) (none-left (is_admission client name) roster);
      all =
          all_listed rows roster (others ++ last ∷ []) client name change
          (λ row named. here row (IsNamed-from client name row named).client_is (IsNamed-from client name row named).name_is)
          (λ row differs listed. still row differs (list_any (is_admission row.client row.name) roster) refl listed) kept.all;
      within = rw (sum_by_push (λ (admission : Admission). admission.share) others last) fits;
    }
  where
    later : List Row
    later = with_named client name change rows

    others : List Admission
    others = other_admissions client name roster

    last : Admission
    last = record { client = client; name = name; share = share }

    own : is_admission client name last ≡ true
    own = and_from _ _ (nat_eq_equiv.refl client) (nat_list_eq_equiv.refl name)

    here : (row : Row) → row.client ≡ client → row.name ≡ name → is_listed (others ++ last ∷ []) (change row) ≡ true
    here row client_is name_is =
        or_right (not (is_admitted (change row))) _
        (ap (λ (owner : ℕ). list_any (is_admission owner (change row).name) (others ++ last ∷ [])) (leaves.client row ∙ client_is)
        ∙ ap (λ (other : List ℕ). list_any (is_admission client other) (others ++ last ∷ [])) (leaves.name row ∙ name_is)
        ∙ list_any-append (is_admission client name) others (last ∷ []) ∙ or_right (list_any (is_admission client name) others) _ (or_left (is_admission client name last) _ own))

    still : (row : Row) → has_name client name row ≡ false → (there : Bool) → list_any (is_admission row.client row.name) roster ≡ there → (not (is_admitted row) || there) ≡ true → is_listed (others ++ last ∷ []) row ≡ true
    still row differs true there listed =
        or_right (not (is_admitted row)) _
        (list_any-append (is_admission row.client row.name) others (last ∷ []) ∙ or_left (list_any (is_admission row.client row.name) others) _ (others_listed roster client name row differs ∙ there))
    still row differs false there listed = or_left (not (is_admitted row)) _ (free (not (is_admitted row)) listed)
      where
        free : (b : Bool) → (b || false) ≡ true → b ≡ true
        free true h = refl
        free false h = h
