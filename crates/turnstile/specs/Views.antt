-- What a pass knows. A pass that was joined into another is spent and has no part; every other has its own part
-- and those that were joined into it.
use Rattle.std.specs.Prelude.{ℕ, zero, suc, List, [], ◌∷◌, ◌++◌, length, drop}
use Rattle.turnstile.specs.declared.view.Part.{Part}
use Rattle.turnstile.specs.declared.view.View.{View}
use Rattle.turnstile.specs.declared.view.Stage.{Stage}
use Rattle.turnstile.specs.declared.view.Stage.TheVariants.{Spent, Out, Waits, Inside}

module _ {E : Type 0} where
  abbrev pub parts_at : Stage → Part E → List (Part E) → List (Part E)
  parts_at Spent own joined = []
  parts_at Out own joined = own ∷ joined
  parts_at (Waits t) own joined = own ∷ joined
  parts_at (Inside t) own joined = own ∷ joined

  abbrev pub parts : View E → List (Part E)
  parts v = parts_at v.stage v.own v.joined

  -- a part with this number that has added nothing and saw these entries
  abbrev pub fresh : List E → ℕ → Part E
  fresh seen n = record { number = n; mine = []; seen = seen }

  -- n fresh parts, with the numbers from first on
  abbrev pub fresh_from : List E → ℕ → ℕ → List (Part E)
  fresh_from seen first zero = []
  fresh_from seen first (suc n) = fresh seen first ∷ fresh_from seen (suc first) n

  -- outside, with the number first and n fresh parts behind it
  abbrev pub beginning : ℕ → List E → ℕ → ℕ → View E
  beginning made seen first n =
      record { made = made; opening = length seen; stage = Out; own = fresh seen first; joined = fresh_from seen (suc first) n }

  abbrev pub nobody : Part E
  nobody = fresh [] 0

  abbrev pub first_of_parts : List (Part E) → Part E
  first_of_parts [] = nobody
  first_of_parts (p ∷ ps) = p

  abbrev pub spent : View E
  spent = record { made = 0; opening = 0; stage = Spent; own = nobody; joined = [] }

  -- a split: one keeps its own part alone, and the other begins with the next part
  abbrev pub handed : View E → View E
  handed v = record v { joined = [] }

  abbrev pub kept_back : View E → View E
  kept_back v = record v { own = first_of_parts v.joined; joined = drop 1 v.joined }

  -- a join: the one takes in the other's part, and the parts of those that were joined into the other
  abbrev pub joint : View E → View E → View E
  joint v w = record v { joined = v.joined ++ w.own ∷ w.joined }

  abbrev pub at_stage : Stage → View E → View E
  at_stage stage v = record v { stage = stage }

  -- what a pass knows when it has come in to these entries
  abbrev pub arrived : ℕ → List E → View E → View E
  arrived ticket entries v = record v { stage = Inside ticket; own = record v.own { seen = entries } }

  -- what it knows when its new entries are out: they are its own
  abbrev pub gained : List E → View E → View E
  gained entries v =
      record v { own = record v.own { seen = entries; mine = v.own.mine ++ drop (length v.own.seen) entries } }
