-- The numbers of a script and of a command line.
use Rattle.std.specs.Prelude.{◌≡◌, ℕ, ◌≤◌, decimal}
use Rattle.cmd_words.specs.Language.{Language}
use Rattle.cmd_words.specs.Productions.{count}

-- A number is 1 to 7 decimal digits, which may begin with 0; what they write is from least to most.
abbrev pub number_from : ℕ → ℕ → Language ℕ
number_from least most digits n = count digits n × (least ≤ n) × (n ≤ most)

-- a number that a client may have
pub record IsClient (client : ℕ) : Type 0 where
  pub least : 1 ≤ client
  pub greatest : client ≤ 16

-- A client is written in decimal, without a leading zero.
abbrev pub client_number : Language ℕ
client_number digits client = (digits ≡ decimal client) × IsClient client
