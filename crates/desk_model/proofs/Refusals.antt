-- What it says that no refusal holds.
use Rattle.std.proofs.Common.{◌≡◌, ◌≤◌, ℕ, ℤ, pos, negsuc, unsigned_abs, Bool, true, false, not, ◌&&◌, nat_le, is_some, List, ◌∷◌, Option, Some, None, refl}
use Rattle.std.proofs.lemmas.Bool.{true≢false, leb-true, and_parts, not-false}
use Rattle.kind_core.specs.declared.kinds.Kind.{Kind}
use Rattle.cmd_words.specs.declared.replies.Refusal.{Refusal}
use Rattle.cmd_words.specs.declared.replies.Refusal.TheVariants.{BadValue}
use Rattle.widget_model.specs.Rows.{Row}
use Rattle.widget_model.specs.Named.{is_kind_of}
use Rattle.desk_model.specs.Refusals.{when, first_refusal, unless_there, unless_kind}
use Rattle.desk_model.specs.PlaceOptions.{unless_within}

-- the first one doesn't hold, and none after it
pub passed : (refusal : Option Refusal) (refusals : List (Option Refusal)) → first_refusal (refusal ∷ refusals) ≡ None → (refusal ≡ None) × (first_refusal refusals ≡ None)
passed None refusals h = (refl, h)
passed (Some refusal) refusals h = absurd (cc)

pub when-none : (test : Bool) (refusal : Refusal) → when test refusal ≡ None → test ≡ false
when-none true refusal h = absurd (cc)
when-none false refusal h = refl

pub unless_there-none : (o : Option Row) → unless_there o ≡ None → (row : Row) × (o ≡ Some row)
unless_there-none None h = absurd (cc)
unless_there-none (Some row) h = (row, refl)

pub unless_kind-none : (test : Kind → Bool) (o : Option Row) → unless_kind test o ≡ None → is_kind_of test o ≡ true
unless_kind-none test o h = not-false (is_kind_of test o) (when-none (not (is_kind_of test o)) _ h)

-- the number is in its range
pub unless_within-none : (least greatest : ℕ) (n : ℤ) → unless_within (pos least) (pos greatest) n ≡ None → (least ≤ unsigned_abs n) × (unsigned_abs n ≤ greatest)
unless_within-none least greatest (pos k) h =
    let parts = and_parts (nat_le least k) (nat_le k greatest) (not-false (nat_le least k && nat_le k greatest) (when-none (not (nat_le least k && nat_le k greatest)) (BadValue (pos least) (pos greatest)) h)) in
    (leb-true least k parts.0, leb-true k greatest parts.1)
unless_within-none least greatest (negsuc k) h = absurd (cc)

pub is_some-none : {X : Type 0} (o : Option X) → is_some o ≡ false → o ≡ None
is_some-none None h = refl
is_some-none (Some x) h = absurd (true≢false h)
