-- Bytes are cut in one way, and bytes behind change nothing.
use Rattle.std.proofs.Common.{◌≡◌, ◌⊎◌, inl, inr, ℕ, ◌+◌, ◌<◌, ◌≤◌, zero, suc, false, List, [], ◌∷◌, ◌++◌, length, take, refl, sym, ap, subst, ◌∙◌, arith, append_assoc, length-append}
use Rattle.std.proofs.lemmas.List.{append_cancel_left}
use Rattle.std.proofs.Math.Seq.{take-append_seam}
use Rattle.cmd_text.specs.FrameLine.{IsFrameLine}
use Rattle.cmd_text.specs.Misread.{IsMisread}
use Rattle.cmd_text.proofs.Places.{one_place}
use Rattle.script_lines.specs.Sayings.{command_limit}
use Rattle.wire_link.specs.declared.cut.Cut.{Cut}
use Rattle.wire_link.specs.declared.cut.Cut.TheVariants.{More, Line, Payload, TooLong, BadFrame}
use Rattle.wire_link.specs.Framing.{Framed, IsLine, IsFrame, IsTooLarge, IsPartial, BeginsTooLong, BeginsBad, GivesLine, GivesPayload, Gives, has_feed}
use Rattle.wire_link.specs.Laws.{OneCut, SameCut, CutsStay, longer}
use Rattle.wire_link.proofs.Cuttings.{feed_later, one_line, one_size, not_bad, missing}
use Rattle.wire_link.proofs.Goings.{long_more, bad_more}

stay : (old new : Framed) (cut : Cut) (more : List ℕ) → (cut ≡ More → ⊥) → Gives old cut new → Gives (longer more old) cut (longer more new)
stay old new More more other gives = absurd (other refl)
stay old new Line more other gives = record { item = gives.item; spelled = ap (λ xs. xs ++ more) gives.spelled ∙ append_assoc new.line (10 ∷ new.waiting) more }
stay old new Payload more other gives = record {
  item = gives.item;
  spelled = ap (λ xs. xs ++ more) gives.spelled
      ∙ append_assoc new.line (10 ∷ (new.payload ++ new.waiting)) more
      ∙ ap (λ xs. new.line ++ 10 ∷ xs) (append_assoc new.payload new.waiting more);
}
stay old new TooLong more other gives = (long_more old.waiting more gives.0, ap (longer more) gives.1)
stay old new (BadFrame place) more other gives = (bad_more old.waiting more place gives.0, ap (longer more) gives.1)

pub cuts_stay : CutsStay
cuts_stay = stay

-- ---- a line that ends is not too long

feed_in_front : (line rest : List ℕ) (n : ℕ) → length line < n → has_feed (take n (line ++ 10 ∷ rest)) ≡ false → ⊥
feed_in_front [] rest zero less clear = absurd (omega arith)
feed_in_front [] rest (suc n) less clear = cc
feed_in_front (byte ∷ line) rest zero less clear = absurd (omega arith)
feed_in_front (byte ∷ line) rest (suc n) less clear = feed_in_front line rest n (omega arith) (feed_later byte (take n (line ++ 10 ∷ rest)) clear)

ends_not_long : (bytes line rest : List ℕ) → IsLine line → bytes ≡ line ++ 10 ∷ rest → BeginsTooLong bytes → ⊥
ends_not_long bytes line rest is spelled long =
    let short : length line ≤ command_limit = is.short in
    feed_in_front line rest (command_limit + 1) (omega arith) (ap (λ xs. has_feed (take (command_limit + 1) xs)) (sym spelled) ∙ long.no_feed)

part_not_long : (bytes : List ℕ) → IsPartial bytes → BeginsTooLong bytes → ⊥
part_not_long bytes (inl open_line) long = (let few : length bytes ≤ command_limit = open_line.short in let many : command_limit + 1 ≤ length bytes = long.long in omega arith)
part_not_long bytes (inr short) long = ends_not_long bytes short.line short.payload short.is_line short.spelled long

-- ---- a part is no line

part_not_line : (old new : Framed) → IsPartial old.waiting → GivesLine old new → ⊥
part_not_line old new part gives =
    gives.item.plain (missing new.line new.waiting gives.item.is_line (subst IsPartial gives.spelled part)).frame.frame

part_not_payload : (old new : Framed) → IsPartial old.waiting → GivesPayload old new → ⊥
part_not_payload old new part gives =
    let few = missing new.line (new.payload ++ new.waiting) gives.item.is_line (subst IsPartial gives.spelled part) in
    let same : few.size ≡ length new.payload = one_size new.line few.size (length new.payload) few.frame gives.item.frame in
    let less : length (new.payload ++ new.waiting) < few.size = few.missing in
    omega (arith, length-append new.payload new.waiting)

part_not_bad : (bytes : List ℕ) (place : ℕ) → IsPartial bytes → BeginsBad bytes place → ⊥
part_not_bad bytes place part bad =
    let few = missing bad.line bad.later bad.is_line (subst IsPartial bad.spelled part) in
    not_bad bad.line few.size place few.frame bad.bad

-- ---- lines, payloads and bad lines told apart

line_not_payload : (old first second : Framed) → GivesLine old first → GivesPayload old second → ⊥
line_not_payload old first second p q =
    let same = one_line first.line second.line first.waiting (second.payload ++ second.waiting) p.item.is_line.no_feed q.item.is_line.no_feed (sym p.spelled ∙ q.spelled) in
    p.item.plain (subst IsFrameLine (sym same.line) q.item.frame.frame)

line_not_bad : (old first : Framed) (place : ℕ) → GivesLine old first → BeginsBad old.waiting place → ⊥
line_not_bad old first place p bad =
    let same = one_line first.line bad.line first.waiting bad.later p.item.is_line.no_feed bad.is_line.no_feed (sym p.spelled ∙ bad.spelled) in
    p.item.plain (subst IsFrameLine (sym same.line) bad.bad.frame)

payload_not_bad : (old first : Framed) (place : ℕ) → GivesPayload old first → BeginsBad old.waiting place → ⊥
payload_not_bad old first place p bad =
    let same = one_line first.line bad.line (first.payload ++ first.waiting) bad.later p.item.is_line.no_feed bad.is_line.no_feed (sym p.spelled ∙ bad.spelled) in
    not_bad bad.line (length first.payload) place (subst (λ l. IsFrame l (length first.payload)) same.line p.item.frame) bad.bad

-- ---- the same line, payload and place

abbrev framed_of : List ℕ → List ℕ → List ℕ → Framed
framed_of waiting line payload = record { waiting = waiting; line = line; payload = payload }

same_framed : (waiting others line other payload more : List ℕ) → waiting ≡ others → line ≡ other → payload ≡ more → framed_of waiting line payload ≡ framed_of others other more
same_framed waiting others line other payload more a b c =
    ap (λ x. framed_of x line payload) a ∙ ap (λ x. framed_of others x payload) b ∙ ap (λ x. framed_of others other x) c

same_line : (old first second : Framed) → GivesLine old first → GivesLine old second → first ≡ second
same_line old first second p q =
    let same = one_line first.line second.line first.waiting second.waiting p.item.is_line.no_feed q.item.is_line.no_feed (sym p.spelled ∙ q.spelled) in
    let line : first.line ≡ second.line = same.line in
    let rest : first.waiting ≡ second.waiting = same.rest in
    let payload : first.payload ≡ second.payload = p.item.none ∙ sym q.item.none in
    same_framed first.waiting second.waiting first.line second.line first.payload second.payload rest line payload

same_front : (a b x y : List ℕ) → length a ≡ length b → a ++ x ≡ b ++ y → a ≡ b
same_front a b x y size same = sym (take-append_seam a x) ∙ ap (λ xs. take (length a) xs) same ∙ ap (λ n. take n (b ++ y)) size ∙ take-append_seam b y

same_payload : (old first second : Framed) → GivesPayload old first → GivesPayload old second → first ≡ second
same_payload old first second p q =
    let same = one_line first.line second.line (first.payload ++ first.waiting) (second.payload ++ second.waiting) p.item.is_line.no_feed q.item.is_line.no_feed (sym p.spelled ∙ q.spelled) in
    let line : first.line ≡ second.line = same.line in
    let size : length first.payload ≡ length second.payload = one_size second.line (length first.payload) (length second.payload) (subst (λ l. IsFrame l (length first.payload)) same.line p.item.frame) q.item.frame in
    let payload : first.payload ≡ second.payload = same_front first.payload second.payload first.waiting second.waiting size same.rest in
    let rest : first.waiting ≡ second.waiting = append_cancel_left second.payload first.waiting second.waiting (ap (λ xs. xs ++ first.waiting) (sym payload) ∙ same.rest) in
    same_framed first.waiting second.waiting first.line second.line first.payload second.payload rest line payload

bad_place : (line : List ℕ) (a b : ℕ) → IsMisread line a ⊎ IsTooLarge line a → IsMisread line b ⊎ IsTooLarge line b → a ≡ b
bad_place line a b (inl p) (inl q) = one_place line a b p.place q.place
bad_place line a b (inl p) (inr q) = absurd (p.none q.command q.stands)
bad_place line a b (inr p) (inl q) = absurd (q.none p.command p.stands)
bad_place line a b (inr p) (inr q) = p.at ∙ sym q.at

same_bad : (bytes : List ℕ) (a b : ℕ) → BeginsBad bytes a → BeginsBad bytes b → a ≡ b
same_bad bytes a b p q =
    let same = one_line p.line q.line p.later q.later p.is_line.no_feed q.is_line.no_feed (sym p.spelled ∙ q.spelled) in
    bad_place q.line a b (subst (λ l. IsMisread l a ⊎ IsTooLarge l a) same.line p.bad.bad) q.bad.bad

one : (old first second : Framed) (a b : Cut) → Gives old a first → Gives old b second → SameCut a b first second
one old first second More More p q = record { cut = refl; framed = p.1 ∙ sym q.1 }
one old first second More Line p q = absurd (part_not_line old second p.0 q)
one old first second More Payload p q = absurd (part_not_payload old second p.0 q)
one old first second More TooLong p q = absurd (part_not_long old.waiting p.0 q.0)
one old first second More (BadFrame place) p q = absurd (part_not_bad old.waiting place p.0 q.0)
one old first second Line More p q = absurd (part_not_line old first q.0 p)
one old first second Line Line p q = record { cut = refl; framed = same_line old first second p q }
one old first second Line Payload p q = absurd (line_not_payload old first second p q)
one old first second Line TooLong p q = absurd (ends_not_long old.waiting first.line first.waiting p.item.is_line p.spelled q.0)
one old first second Line (BadFrame place) p q = absurd (line_not_bad old first place p q.0)
one old first second Payload More p q = absurd (part_not_payload old first q.0 p)
one old first second Payload Line p q = absurd (line_not_payload old second first q p)
one old first second Payload Payload p q = record { cut = refl; framed = same_payload old first second p q }
one old first second Payload TooLong p q = absurd (ends_not_long old.waiting first.line _ p.item.is_line p.spelled q.0)
one old first second Payload (BadFrame place) p q = absurd (payload_not_bad old first place p q.0)
one old first second TooLong More p q = absurd (part_not_long old.waiting q.0 p.0)
one old first second TooLong Line p q = absurd (ends_not_long old.waiting second.line second.waiting q.item.is_line q.spelled p.0)
one old first second TooLong Payload p q = absurd (ends_not_long old.waiting second.line _ q.item.is_line q.spelled p.0)
one old first second TooLong TooLong p q = record { cut = refl; framed = p.1 ∙ sym q.1 }
one old first second TooLong (BadFrame place) p q = absurd (ends_not_long old.waiting q.0.line q.0.later q.0.is_line q.0.spelled p.0)
one old first second (BadFrame place) More p q = absurd (part_not_bad old.waiting place q.0 p.0)
one old first second (BadFrame place) Line p q = absurd (line_not_bad old second place q p.0)
one old first second (BadFrame place) Payload p q = absurd (payload_not_bad old second place q p.0)
one old first second (BadFrame place) TooLong p q = absurd (ends_not_long old.waiting p.0.line p.0.later p.0.is_line p.0.spelled q.0)
one old first second (BadFrame a) (BadFrame b) p q = record { cut = ap (λ (n : ℕ). BadFrame n) (same_bad old.waiting a b p.0 q.0); framed = p.1 ∙ sym q.1 }

pub one_cut : OneCut
one_cut = one
