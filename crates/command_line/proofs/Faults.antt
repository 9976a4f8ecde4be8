-- Whether `clap` takes words, by what its parse answers.
use Rattle.std.proofs.Common.{◌≡◌, ◌∙◌, true, List, [], inl, inr, sym, ap, subst}
use Rattle.clap.specs.Words.{App, HasKind, IsAmong, Kinds, Text, fault_of, is_simple_and_free, kind_of, takes}
use Rattle.clap.specs.declared.error.Error.{Error}
use Rattle.clap.specs.declared.error.kind.ErrorKind.TheVariants.{OutOfMemory}
use Rattle.command_line.specs.Table.{Verb}
use Rattle.command_line.specs.Program.{AreTaken, program}
use Rattle.command_line.proofs.Built.{program_free}

free_as : (app : App) (verbs : List Verb) → app ≡ program verbs → is_simple_and_free app ≡ true
free_as app verbs is = ap is_simple_and_free is ∙ program_free verbs

pub no_fault : (app : App) (verbs : List Verb) (words : List Text) → app ≡ program verbs → (is_simple_and_free app ≡ true → fault_of app words ≡ []) → fault_of (program verbs) words ≡ []
no_fault app verbs words is none = ap (λ a. fault_of a words) (sym is) ∙ none (free_as app verbs is)

memory_kind : (kinds : Kinds) (e : Error) → kinds ≡ [] → HasKind kinds e → kind_of e ≡ OutOfMemory
memory_kind kinds e none (inl memory) = memory
memory_kind kinds e none (inr among) = absurd (subst (λ ks. IsAmong (kind_of e) ks) none among)

-- an error at words that are taken is want of memory
pub taken_memory : (app : App) (verbs : List Verb) (words : List Text) (e : Error) → app ≡ program verbs → (takes app words ≡ true → kind_of e ≡ OutOfMemory)
    → (is_simple_and_free app ≡ true → HasKind (fault_of app words) e) → AreTaken verbs words → kind_of e ≡ OutOfMemory
taken_memory app verbs words e is passes kinds (inl taken) = passes (ap (λ a. takes a words) is ∙ taken)
taken_memory app verbs words e is passes kinds (inr none) = memory_kind (fault_of app words) e (ap (λ a. fault_of a words) is ∙ none) (kinds (free_as app verbs is))
