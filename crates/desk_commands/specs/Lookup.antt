-- Inner words of the proofs: what is found under a client's name, and what is read of it.
use Rattle.std.specs.Prelude.{ℕ, ◌≡◌, Bool, true, List, ◌∷◌, Option, Some, None, Result, Ok, Err, map}
use Rattle.kind_core.specs.declared.kinds.Kind.{Kind}
use Rattle.kind_core.specs.declared.kinds.Attr.{Attr}
use Rattle.kind_core.specs.declared.values.Value as value
use Rattle.cmd_words.specs.declared.replies.Refusal.{Refusal}
use Rattle.cmd_words.specs.declared.replies.Refusal.TheVariants.{NoSuchName}
use Rattle.widget_model.specs.Rows.{Row, attr_of}
use Rattle.widget_model.specs.Nodes.{id_named}
use Rattle.widget_model.specs.Named.{row_named}
use Rattle.widget_model.specs.Widgets.{Widgets, nodes, rows_of, row_at}
use Rattle.tree_core.specs.declared.id.Id.{Id}
use Rattle.desk_model.specs.Refusals.{first_refusal, unless_there, unless_kind}
use Rattle.desk_commands.specs.declared.lookup.Found.{Found}

-- The client's widget of that name has that number and kind.
pub record IsFound (widgets : Widgets) (client : ℕ) (name : List ℕ) (key : ℕ) (kind : Kind) : Type 0 where
  pub row : Row
  pub id : id_named (nodes widgets.entries) client name ≡ Some key
  pub there : row_at widgets.entries key ≡ Some row
  pub named : row_named (rows_of widgets) client name ≡ Some row
  pub has : row.kind ≡ kind

abbrev pub AnswersFound : Widgets → ℕ → List ℕ → Result Found Refusal → Type 0
AnswersFound widgets client name (Ok found) = IsFound widgets client name found.id.key found.kind
AnswersFound widgets client name (Err refusal) = (refusal ≡ NoSuchName) × (row_named (rows_of widgets) client name ≡ None)

-- no other kind passes the test
abbrev pub IsOnly : Kind → (Kind → Bool) → Type 0
IsOnly kind test = (other : Kind) → test other ≡ true → other ≡ kind

-- The client's widget of that name has that number and is of that kind; or the refusal is the first one, whatever else
-- is asked after the name and the kind.
abbrev pub AnswersKind : Widgets → ℕ → List ℕ → Kind → Result Id Refusal → Type 0
AnswersKind widgets client name kind (Ok id) = IsFound widgets client name id.key kind
AnswersKind widgets client name kind (Err refusal) =
    (test : Kind → Bool) (rest : List (Option Refusal)) → IsOnly kind test → first_refusal (unless_there (row_named (rows_of widgets) client name) ∷ unless_kind test (row_named (rows_of widgets) client name) ∷ rest) ≡ Some refusal

-- the values that a row has for the attributes of the options
abbrev pub values_given : Row → List (Attr × value.Value) → List (Option value.Value)
values_given row options = map (λ option. attr_of row option.0) options
