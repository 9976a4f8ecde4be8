-- The text of a screen is put out in three parts: a line with the sides, the bytes of the screen, a line feed.
use Rattle.std.proofs.Common.{◌≡◌, ℕ, Result, Ok, Err, OnOk, OnErr, List, ◌++◌, subst, codes}
use Rattle.kind_core.specs.declared.shapes.Shape.{Shape}
use Rattle.outside_io.specs.Outbox.{Output, Puts, PutsFront}
use Rattle.outside_io.proofs.Gathered.{Puts-append, PutsFront-longer, PutsFront-after}
use Rattle.dope_run.specs.Text.{dump_line, dump_text}

both_put : (shape : Shape) (line bytes : List ℕ) (before middle after : Output) → line ≡ dump_line shape → Puts before middle line → Puts middle after bytes → Puts before after (dump_line shape ++ bytes)
both_put shape line bytes before middle after is first second = Puts-append before middle after (dump_line shape) bytes (subst (Puts before middle) is first) second

-- the line with the sides was broken off
pub screen_without_line : (shape : Shape) (line bytes : List ℕ) (k0 k1 : Output) → line ≡ dump_line shape → PutsFront k0 k1 line → PutsFront k0 k1 (dump_text shape bytes)
screen_without_line shape line bytes k0 k1 is cut =
    PutsFront-longer k0 k1 (dump_line shape ++ bytes) (codes "\n") (PutsFront-longer k0 k1 (dump_line shape) bytes (subst (PutsFront k0 k1) is cut))

-- the bytes of the screen were broken off
pub screen_without_bytes : (shape : Shape) (line bytes : List ℕ) (k0 k1 k2 : Output) → line ≡ dump_line shape → Puts k0 k1 line → PutsFront k1 k2 bytes → PutsFront k0 k2 (dump_text shape bytes)
screen_without_bytes shape line bytes k0 k1 k2 is first cut =
    PutsFront-longer k0 k2 (dump_line shape ++ bytes) (codes "\n") (PutsFront-after k0 k1 k2 (dump_line shape) bytes (subst (Puts k0 k1) is first) cut)

-- by how the writing of the line feed went
pub screen_by_writing : {T E : Type 0} (result : Result T E) (shape : Shape) (line bytes : List ℕ) (k0 k1 k2 k3 : Output) → line ≡ dump_line shape → Puts k0 k1 line → Puts k1 k2 bytes → OnOk result (Puts k2 k3 (codes "\n")) → OnErr result (PutsFront k2 k3 (codes "\n")) → OnOk result (Puts k0 k3 (dump_text shape bytes)) × OnErr result (PutsFront k0 k3 (dump_text shape bytes))
screen_by_writing (Ok x) shape line bytes k0 k1 k2 k3 is first second last cut =
    (Puts-append k0 k2 k3 (dump_line shape ++ bytes) (codes "\n") (both_put shape line bytes k0 k1 k2 is first second) last, tt)
screen_by_writing (Err e) shape line bytes k0 k1 k2 k3 is first second last cut =
    (tt, PutsFront-after k0 k2 k3 (dump_line shape ++ bytes) (codes "\n") (both_put shape line bytes k0 k1 k2 is first second) cut)
