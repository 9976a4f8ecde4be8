-- The small productions of the grammar: spaces, names, numbers, texts, values, words and options.
use Rattle.std.specs.Prelude.{◌≡◌, ℕ, zero, suc, ◌+◌, ◌-◌, ◌*◌, ℤ, pos, neg_ℤ, Bool, false, ◌&&◌, ◌||◌, ◌==◌, IsTrue, nat_lt, nat_le, if◌then◌else◌, List, [], ◌∷◌, ◌++◌, length}
use Rattle.std.specs.List.{list_all, fold, flat_map}
use Rattle.kind_core.specs.Bytes.{is_digit, is_name, is_text}
use Rattle.kind_core.specs.declared.kinds.Kind.{Kind}
use Rattle.kind_core.specs.declared.kinds.Attr.{Attr}
use Rattle.kind_core.specs.declared.kinds.EventKind.{EventKind}
use Rattle.kind_core.specs.declared.values.Value as value_type
use Rattle.kind_core.specs.declared.values.Value.TheVariants.{Number, Words}
use Rattle.cmd_words.specs.declared.commands.PlaceOption.{PlaceOption}
use Rattle.cmd_words.specs.declared.commands.ConfigOption.{ConfigOption}
use Rattle.cmd_words.specs.Words.{kind_word, attr_word, event_word, place_word, config_word}
use Rattle.cmd_words.specs.Language.{Language, ◌▹◌, ◌▸◌, ◌⊕◌, stands_for, word}

abbrev pub is_space : ℕ → Bool
is_space b = b == 32

-- sp: zero or more spaces
abbrev pub sp : List ℕ → Type 0
sp u = IsTrue (list_all is_space u)

-- sp1: one or more spaces
abbrev pub sp1 : List ℕ → Type 0
sp1 u = IsTrue (nat_lt 0 (length u) && list_all is_space u)

-- name: a letter, then up to 15 letters, digits or `_`
abbrev pub name : Language (List ℕ)
name u n = (u ≡ n) × IsTrue (is_name u)

-- 1 to 7 digits
abbrev pub are_digits : List ℕ → Bool
are_digits [] = false
are_digits (d ∷ ds) = is_digit d && nat_le (length ds) 6 && list_all is_digit ds

-- the number that digits write in base 10
abbrev pub number_of : List ℕ → ℕ
number_of ds = fold (λ n d. 10 * n + (d - 48)) 0 ds

-- count: 1 to 7 digits
abbrev pub count : Language ℕ
count u n = IsTrue (are_digits u) × (n ≡ number_of u)

-- number: 1 to 7 digits with or without a `-` before them
abbrev pub number : Language ℤ
number = (word "-" ▹ count ▸ λ n. stands_for (neg_ℤ (pos n))) ⊕ (count ▸ λ n. stands_for (pos n))

-- a character of a text: the quote and `\` have a `\` before them, each other byte stands for itself
abbrev pub character : ℕ → List ℕ
character b = if (b == 34) || (b == 92) then 92 ∷ b ∷ [] else b ∷ []

-- text: a quote, 0 to 64 characters, a quote
abbrev pub text : Language (List ℕ)
text u t = (u ≡ 34 ∷ flat_map character t ++ 34 ∷ []) × IsTrue (is_text t)

-- value: a text or a number
abbrev pub value : Language value_type.Value
value = (text ▸ λ t. stands_for (Words t)) ⊕ (number ▸ λ n. stands_for (Number n))

-- kind, attr, event: one of the words
abbrev pub kind : Language Kind
kind u k = u ≡ kind_word k

abbrev pub attr : Language Attr
attr u a = u ≡ attr_word a

abbrev pub event : Language EventKind
event u e = u ≡ event_word e

abbrev pub place_option : Language PlaceOption
place_option u o = u ≡ place_word o

abbrev pub config_option : Language ConfigOption
config_option u o = u ≡ config_word o

-- sopt: `-`, an attribute and its value
abbrev pub sopt : Language (Attr × value_type.Value)
sopt = word "-" ▹ attr ▸ λ a. sp1 ▹ value ▸ λ v. stands_for (a, v)

-- popt: `-`, one of `column`, `row` and `pad`, and a number
abbrev pub popt : Language (PlaceOption × ℤ)
popt = word "-" ▹ place_option ▸ λ o. sp1 ▹ number ▸ λ n. stands_for (o, n)

-- copt: `-`, one of `size` and `weight`, and a number
abbrev pub copt : Language (ConfigOption × ℤ)
copt = word "-" ▹ config_option ▸ λ o. sp1 ▹ number ▸ λ n. stands_for (o, n)

-- up to k more options, each after one or more spaces; front are those before them
abbrev pub up_to : {A C : Type 0} → ℕ → Language A → List A → (List A → Language C) → Language C
up_to zero option front rest = rest front
up_to (suc k) option front rest = rest front ⊕ (sp1 ▹ option ▸ λ o. up_to k option (front ++ o ∷ []) rest)

-- 1 to 8 options, with one or more spaces between them
unfoldable pub options : {A C : Type 0} → Language A → (List A → Language C) → Language C
options option rest = option ▸ λ o. up_to 7 option (o ∷ []) rest
