-- Languages that are the same, however their parts are joined.
use Rattle.std.proofs.Common.{ℕ, List, [], ◌++◌, refl, sym, ap, subst, ◌∙◌, inl, inr, append_assoc}
use Rattle.cmd_words.specs.Language.{Language, ◌▹◌, ◌▸◌, ◌⊕◌, stands_for}
use Rattle.cmd_text.proofs.Settling.{Same}

module _ {C : Type 0} where
  pub same_refl : (L : Language C) → Same L L
  same_refl L = (λ xs c h. h, λ xs c h. h)

  pub same_sym : (L M : Language C) → Same L M → Same M L
  same_sym L M s = (s.1, s.0)

  pub same_trans : (L M N : Language C) → Same L M → Same M N → Same L N
  same_trans L M N s t = (λ xs c h. t.0 xs c (s.0 xs c h), λ xs c h. s.1 xs c (t.1 xs c h))

  pub same_then : (P : List ℕ → Type 0) (L M : Language C) → Same L M → Same (P ▹ L) (P ▹ M)
  same_then P L M s = (
    λ xs c h. record { front = h.front; after = h.after; split = h.split; word = h.word; goes_on = s.0 _ _ h.goes_on },
    λ xs c h. record { front = h.front; after = h.after; split = h.split; word = h.word; goes_on = s.1 _ _ h.goes_on },
  )

  pub same_with : {A : Type 0} (P : Language A) (L M : A → Language C) → ((a : A) → Same (L a) (M a)) → Same (P ▸ L) (P ▸ M)
  same_with P L M s = (
    λ xs c h. record { front = h.front; after = h.after; value = h.value; split = h.split; stands = h.stands; goes_on = (s h.value).0 _ _ h.goes_on },
    λ xs c h. record { front = h.front; after = h.after; value = h.value; split = h.split; stands = h.stands; goes_on = (s h.value).1 _ _ h.goes_on },
  )

  pub same_or : (L M N O : Language C) → Same L N → Same M O → Same (L ⊕ M) (N ⊕ O)
  same_or L M N O s t = (
    λ xs c h. elim h [ inl l ↦ inl (s.0 xs c l) | inr m ↦ inr (t.0 xs c m) ],
    λ xs c h. elim h [ inl l ↦ inl (s.1 xs c l) | inr m ↦ inr (t.1 xs c m) ],
  )

  -- a value, and what goes on for it
  pub with_stands : {A : Type 0} (a : A) (L : A → Language C) → Same (stands_for a ▸ L) (L a)
  with_stands {A} a L = (
    λ xs c h. let P : A → Type 0 = λ b. L b xs c in let Q : List ℕ → Type 0 = λ ys. L h.value ys c in
        subst P h.stands.1 (subst Q (sym (h.split ∙ ap (λ (u : List ℕ). u ++ h.after) h.stands.0)) h.goes_on),
    λ xs c h. record { front = []; after = xs; value = a; split = refl; stands = (refl, refl); goes_on = h },
  )

  pub with_then : {A : Type 0} (P : List ℕ → Type 0) (Q : Language A) (L : A → Language C) → Same ((P ▹ Q) ▸ L) (P ▹ (Q ▸ L))
  with_then P Q L = (
    λ xs c h. record {
      front = h.stands.front;
      after = h.stands.after ++ h.after;
      split = h.split ∙ ap (λ (u : List ℕ). u ++ h.after) h.stands.split ∙ append_assoc h.stands.front h.stands.after h.after;
      word = h.stands.word;
      goes_on = record { front = h.stands.after; after = h.after; value = h.value; split = refl; stands = h.stands.goes_on; goes_on = h.goes_on };
    },
    λ xs c h. record {
      front = h.front ++ h.goes_on.front;
      after = h.goes_on.after;
      value = h.goes_on.value;
      split = h.split ∙ ap (λ (u : List ℕ). h.front ++ u) h.goes_on.split ∙ sym (append_assoc h.front h.goes_on.front h.goes_on.after);
      stands = record { front = h.front; after = h.goes_on.front; split = refl; word = h.word; goes_on = h.goes_on.stands };
      goes_on = h.goes_on.goes_on;
    },
  )

  pub with_with : {A B : Type 0} (P : Language A) (Q : A → Language B) (L : B → Language C) → Same ((P ▸ Q) ▸ L) (P ▸ λ a. (Q a ▸ L))
  with_with P Q L = (
    λ xs c h. record {
      front = h.stands.front;
      after = h.stands.after ++ h.after;
      value = h.stands.value;
      split = h.split ∙ ap (λ (u : List ℕ). u ++ h.after) h.stands.split ∙ append_assoc h.stands.front h.stands.after h.after;
      stands = h.stands.stands;
      goes_on = record { front = h.stands.after; after = h.after; value = h.value; split = refl; stands = h.stands.goes_on; goes_on = h.goes_on };
    },
    λ xs c h. record {
      front = h.front ++ h.goes_on.front;
      after = h.goes_on.after;
      value = h.goes_on.value;
      split = h.split ∙ ap (λ (u : List ℕ). h.front ++ u) h.goes_on.split ∙ sym (append_assoc h.front h.goes_on.front h.goes_on.after);
      stands = record { front = h.front; after = h.goes_on.front; value = h.value; split = refl; stands = h.stands; goes_on = h.goes_on.stands };
      goes_on = h.goes_on.goes_on;
    },
  )

  pub with_or : {A : Type 0} (P Q : Language A) (L : A → Language C) → Same ((P ⊕ Q) ▸ L) ((P ▸ L) ⊕ (Q ▸ L))
  with_or P Q L = (
    λ xs c h. elim h.stands [
      | inl p ↦ inl (record { front = h.front; after = h.after; value = h.value; split = h.split; stands = p; goes_on = h.goes_on })
      | inr q ↦ inr (record { front = h.front; after = h.after; value = h.value; split = h.split; stands = q; goes_on = h.goes_on })
    ],
    λ xs c h. elim h [
      | inl l ↦ record { front = l.front; after = l.after; value = l.value; split = l.split; stands = inl l.stands; goes_on = l.goes_on }
      | inr l ↦ record { front = l.front; after = l.after; value = l.value; split = l.split; stands = inr l.stands; goes_on = l.goes_on }
    ],
  )

  -- a part that both alternatives begin with
  pub then_or : (P : List ℕ → Type 0) (L M : Language C) → Same ((P ▹ L) ⊕ (P ▹ M)) (P ▹ (L ⊕ M))
  then_or P L M = (
    λ xs c h. elim h [
      | inl l ↦ record { front = l.front; after = l.after; split = l.split; word = l.word; goes_on = inl l.goes_on }
      | inr l ↦ record { front = l.front; after = l.after; split = l.split; word = l.word; goes_on = inr l.goes_on }
    ],
    λ xs c h. elim h.goes_on [
      | inl l ↦ inl (record { front = h.front; after = h.after; split = h.split; word = h.word; goes_on = l })
      | inr m ↦ inr (record { front = h.front; after = h.after; split = h.split; word = h.word; goes_on = m })
    ],
  )

  pub with_both : {A : Type 0} (P : Language A) (L M : A → Language C) → Same ((P ▸ L) ⊕ (P ▸ M)) (P ▸ λ a. (L a ⊕ M a))
  with_both P L M = (
    λ xs c h. elim h [
      | inl l ↦ record { front = l.front; after = l.after; value = l.value; split = l.split; stands = l.stands; goes_on = inl l.goes_on }
      | inr l ↦ record { front = l.front; after = l.after; value = l.value; split = l.split; stands = l.stands; goes_on = inr l.goes_on }
    ],
    λ xs c h. elim h.goes_on [
      | inl l ↦ inl (record { front = h.front; after = h.after; value = h.value; split = h.split; stands = h.stands; goes_on = l })
      | inr m ↦ inr (record { front = h.front; after = h.after; value = h.value; split = h.split; stands = h.stands; goes_on = m })
    ],
  )
