-- Reading of the front of a frame line.
use Rattle.std.proofs.Common.{◌≡◌, ℕ, Bool, true, List, [], codes, Result, Ok, Err, ◌↔◌, ◌⊎◌, inl, inr, refl, sym, ◌∙◌, is_ok}
use Rattle.std.proofs.lemmas.Bool.{false≢true}
use Rattle.kind_core.specs.Bytes.{is_name_byte}
use Rattle.cmd_words.specs.Language.{Language, ◌▹◌, ◌▸◌, word}
use Rattle.cmd_words.specs.Productions.{is_space, sp, name}
use Rattle.cmd_text.specs.FrameLine.{anything, frame_front, IsFrameLine}
use Rattle.cmd_text.specs.Reading.{◌>>=◌, expect_at, skip_at, name_at}
use Rattle.cmd_text.specs.ReadingLines.{frame_front_at}
use Rattle.cmd_text.specs.Laws.{FrameLinesAreTold}
use Rattle.cmd_text.proofs.Settling.{Settles, Reads}
use Rattle.cmd_text.proofs.Parts.{lit_reads, lit_apart, sp_reads, sp_apart, name_reads, name_apart}

abbrev Answer : Type 0
Answer = Result (Unit {0}) ℕ

abbrev done : List ℕ → Answer
done _ = Ok tt

anything_reads : Reads anything done
anything_reads = record { live = ([], tt, tt); settles = λ xs. (tt, λ d h. refl) }

abbrev opening : Language (Unit {0})
opening = word "(" ▹ anything

abbrev framing : Language (Unit {0})
framing = word "frame" ▹ sp ▹ opening

abbrev dotting : Language (Unit {0})
dotting = word "." ▹ sp ▹ framing

abbrev opened : List ℕ → Answer
opened xs = expect_at (codes "(") xs >>= done

abbrev framed : List ℕ → Answer
framed xs = expect_at (codes "frame") xs >>= λ rest. opened (skip_at rest)

abbrev dotted : List ℕ → Answer
dotted xs = expect_at (codes ".") xs >>= λ rest. framed (skip_at rest)

dotted_reads : Reads dotting dotted
dotted_reads =
    lit_reads (codes ".") (sp ▹ framing) (λ rest. framed (skip_at rest))
    (sp_reads framing framed (lit_apart is_space 102 (codes "rame") (sp ▹ opening) refl)
    (lit_reads (codes "frame") (sp ▹ opening) (λ rest. opened (skip_at rest))
    (sp_reads opening opened (lit_apart is_space 40 [] anything refl) (lit_reads (codes "(") anything done anything_reads))))

pub frame_reads : Reads frame_front frame_front_at
unfolding frame_front frame_front_at
frame_reads =
    sp_reads (name ▸ λ n. sp ▹ dotting) (λ xs. name_at xs >>= λ n. dotted (skip_at n.1)) (name_apart (λ n. sp ▹ dotting))
    (name_reads (λ n. sp ▹ dotting) (λ n xs. dotted (skip_at xs)) (λ n. sp_apart is_name_byte dotting refl (lit_apart is_name_byte 46 [] (sp ▹ framing) refl))
    (λ n. sp_reads dotting dotted (lit_apart is_space 46 [] (sp ▹ framing) refl) dotted_reads))

-- the reading succeeds exactly on frame lines
pub frame_told : (xs : List ℕ) (b : Bool) → b ≡ is_ok (frame_front_at xs) → (b ≡ true) ↔ IsFrameLine xs
frame_told xs b e = by (frame_front_at xs) e (frame_reads.settles xs)
  where
    by : (r : Answer) → b ≡ is_ok r → Settles frame_front xs r → (b ≡ true) ↔ IsFrameLine xs
    by (Ok t) e s = (λ _. s.0, λ _. e)
    by (Err left) e s = (λ q. absurd (false≢true (sym e ∙ q)), λ h. absurd (s.none tt h))

-- a line is a frame line or isn't one
pub frame_lines_are_told : FrameLinesAreTold
frame_lines_are_told xs = by (frame_front_at xs) (frame_reads.settles xs)
  where
    by : (r : Answer) → Settles frame_front xs r → IsFrameLine xs ⊎ (¬ IsFrameLine xs)
    by (Ok t) s = inl s.0
    by (Err left) s = inr (λ h. s.none tt h)
