-- The printed form of a command that has a line is a line that stands for it.
use Rattle.std.proofs.Common.{◌≡◌, ℕ, ℤ, pos, negsuc, neg_ℤ, zero, suc, true, List, [], ◌∷◌, ◌++◌, codes, refl, sym, ap, subst, ◌∙◌, inl, inr, append_assoc, append-nil}
use Rattle.std.specs.List.{flat_map}
use Rattle.std.specs.Fmt.{decimal, signed_decimal}
use Rattle.kind_core.specs.Bytes.{is_name}
use Rattle.kind_core.specs.declared.kinds.Kind.{Kind}
use Rattle.kind_core.specs.declared.kinds.Attr.{Attr}
use Rattle.kind_core.specs.declared.values.Value as value_type
use Rattle.cmd_words.specs.declared.commands.PlaceOption.{PlaceOption}
use Rattle.cmd_words.specs.declared.commands.ConfigOption.{ConfigOption}
use Rattle.cmd_words.specs.declared.commands.Command.{Command}
use Rattle.cmd_words.specs.declared.commands.Command.TheVariants.{New, Set, Get, Place, Lift, ColumnConfig, RowConfig, Link, Unlink, Bind, Unbind, OpenWindow, CloseWindow, TopWindow, Mode, Admit, Leave, SendFrame, DropWidget, Poll}
use Rattle.cmd_words.specs.declared.methods.Method.{Method}
use Rattle.cmd_words.specs.declared.methods.Method.TheVariants as method
use Rattle.cmd_words.specs.Words.{kind_word, attr_word, event_word, place_word, config_word}
use Rattle.cmd_words.specs.Language.{Language, ◌▹◌, ◌▸◌, any, stands_for, word}
use Rattle.cmd_words.specs.Productions.{sp, sp1, name, number, count, value, kind, attr, event, place_option, config_option, sopt, popt, copt, up_to, options}
use Rattle.cmd_words.specs.Grammar.{opens, closes, empty, comma, call, body, command_line}
use Rattle.cmd_print.specs.Printed.{quoted, printed_value, printed_set, printed_place, printed_config, printed_options, printed}
use Rattle.cmd_words.specs.Words.{method_word}
use Rattle.cmd_text.proofs.Numerals.{count_printed}
use Rattle.cmd_text.proofs.Lines.{ending, finishing, arguments, place_after, call_lit, lit_call}
use Rattle.cmd_text.proofs.OptionLists.{option_of}

-- ---- parts put together

module _ {C : Type 0} where
  then_put : (P : List ℕ → Type 0) (K : Language C) (u v : List ℕ) (c : C) → P u → K v c → (P ▹ K) (u ++ v) c
  then_put P K u v c p k = record { front = u; after = v; split = refl; word = p; goes_on = k }

  with_put : {A : Type 0} (P : Language A) (K : A → Language C) (u v : List ℕ) (a : A) (c : C) → P u a → K a v c → (P ▸ K) (u ++ v) c
  with_put P K u v a c p k = record { front = u; after = v; value = a; split = refl; stands = p; goes_on = k }

ended : (c : Command) → ending c [] c
ended c = then_put sp (stands_for c) [] [] c refl (refl, refl)

finished : (c : Command) → finishing c (codes ")") c
finished c = then_put (word ")") (ending c) (codes ")") [] c refl (ended c)

closed : (c : Command) → closes (ending c) (codes ")") c
closed c = then_put sp (finishing c) [] (codes ")") c refl (finished c)

open_put : (K : Language Command) (v : List ℕ) (c : Command) → K v c → opens K (codes "(" ++ v) c
open_put K v c k = then_put sp (word "(" ▹ sp ▹ K) [] (codes "(" ++ v) c refl (then_put (word "(") (sp ▹ K) (codes "(") v c refl (then_put sp K [] v c refl k))

comma_put : (K : Language Command) (v : List ℕ) (c : Command) → K v c → comma K (codes ", " ++ v) c
comma_put K v c k = then_put sp (word "," ▹ sp ▹ K) [] (codes ", " ++ v) c refl (then_put (word ",") (sp ▹ K) (codes ",") (codes " " ++ v) c refl (then_put sp K (codes " ") v c refl k))

close_is : (d c : Command) (xs : List ℕ) → closes (ending d) xs c → c ≡ d
close_is d c xs h = h.goes_on.goes_on.goes_on.1

finish_is : (d c : Command) (xs : List ℕ) → finishing d xs c → c ≡ d
finish_is d c xs h = h.goes_on.goes_on.1

name_is : (u n : List ℕ) → name u n → is_name n ≡ true
name_is u n h = ap is_name (sym h.0) ∙ h.1

three : (a b c d : List ℕ) → ((a ++ b) ++ c) ++ d ≡ a ++ (b ++ (c ++ d))
three a b c d = simp append_assoc

five : (a b c d e f : List ℕ) → ((((a ++ b) ++ c) ++ d) ++ e) ++ f ≡ a ++ (b ++ (c ++ (d ++ (e ++ f))))
five a b c d e f = simp append_assoc

-- ---- numbers

number_plus : (n : ℕ) → count (decimal n) n → number (decimal n) (pos n)
number_plus n h = inr (record { front = decimal n; after = []; value = n; split = sym (append-nil (decimal n)); stands = h; goes_on = (refl, refl) })

number_minus : (n : ℕ) → count (decimal (suc n)) (suc n) → number (45 ∷ decimal (suc n)) (negsuc n)
number_minus n h = inl (record {
  front = codes "-";
  after = decimal (suc n);
  split = refl;
  word = refl;
  goes_on = record { front = decimal (suc n); after = []; value = suc n; split = sym (append-nil (decimal (suc n))); stands = h; goes_on = (refl, refl) };
})

signed_printed : (m : ℕ) → count (decimal m) m → number (signed_decimal (neg_ℤ (pos m))) (neg_ℤ (pos m))
signed_printed zero h = number_plus 0 h
signed_printed (suc k) h = number_minus k h

number_printed : (u : List ℕ) (z : ℤ) → number u z → number (signed_decimal z) z
number_printed u z h =
    let P : ℤ → Type 0 = λ y. number (signed_decimal y) y in
    elim h [
      | inl l ↦ let g = l.goes_on in subst P (sym g.goes_on.1) (signed_printed g.value (count_printed g.front g.value g.stands))
      | inr g ↦ subst P (sym g.goes_on.1) (number_plus g.value (count_printed g.front g.value g.stands))
    ]

-- ---- values and options

value_printed : (u : List ℕ) (v : value_type.Value) → value u v → value (printed_value v) v
value_printed u v h =
    let P : value_type.Value → Type 0 = λ w. value (printed_value w) w in
    elim h [
      | inl t ↦ subst P (sym t.goes_on.1) (inl (record { front = quoted t.value; after = []; value = t.value; split = sym (append-nil (quoted t.value)); stands = (refl, t.stands.1); goes_on = (refl, refl) }))
      | inr n ↦ subst P (sym n.goes_on.1) (inr (record { front = signed_decimal n.value; after = []; value = n.value; split = sym (append-nil (signed_decimal n.value)); stands = number_printed n.front n.value n.stands; goes_on = (refl, refl) }))
    ]

-- `-`, a word, a space and a value
dashed : {A V : Type 0} (P : Language A) (Q : Language V) (w x : List ℕ) (a : A) (v : V) → P w a → Q x v → option_of P Q (((codes "-" ++ w) ++ codes " ") ++ x) (a, v)
dashed P Q w x a v p q = record {
  front = codes "-";
  after = (w ++ codes " ") ++ x;
  split = refl;
  word = refl;
  goes_on = record {
    front = w;
    after = codes " " ++ x;
    value = a;
    split = append_assoc w (codes " ") x;
    stands = p;
    goes_on = record {
      front = codes " ";
      after = x;
      split = refl;
      word = refl;
      goes_on = record { front = x; after = []; value = v; split = sym (append-nil x); stands = q; goes_on = (refl, refl) };
    };
  };
}

sopt_printed : (u : List ℕ) (o : Attr × value_type.Value) → sopt u o → sopt (printed_set o) o
sopt_printed u o h =
    let P : Attr × value_type.Value → Type 0 = λ p. sopt (printed_set p) p in
    let a = h.goes_on.value in let g = h.goes_on.goes_on.goes_on in
    subst P (sym g.goes_on.1) (dashed attr value (attr_word a) (printed_value g.value) a g.value refl (value_printed g.front g.value g.stands))

popt_printed : (u : List ℕ) (o : PlaceOption × ℤ) → popt u o → popt (printed_place o) o
popt_printed u o h =
    let P : PlaceOption × ℤ → Type 0 = λ p. popt (printed_place p) p in
    let a = h.goes_on.value in let g = h.goes_on.goes_on.goes_on in
    subst P (sym g.goes_on.1) (dashed place_option number (place_word a) (signed_decimal g.value) a g.value refl (number_printed g.front g.value g.stands))

copt_printed : (u : List ℕ) (o : ConfigOption × ℤ) → copt u o → copt (printed_config o) o
copt_printed u o h =
    let P : ConfigOption × ℤ → Type 0 = λ p. copt (printed_config p) p in
    let a = h.goes_on.value in let g = h.goes_on.goes_on.goes_on in
    subst P (sym g.goes_on.1) (dashed config_option number (config_word a) (signed_decimal g.value) a g.value refl (number_printed g.front g.value g.stands))

module _ {A C : Type 0} where
  -- what was listed, and that its printed form is listed too
  record Listed (option : Language A) (print : A → List ℕ) (rest : List A → Language C) (c : C) (L : Language C) (form : List A → List ℕ) (front : List A) : Type 0 where
    os : List A
    ys : List ℕ
    ends : rest (front ++ os) ys c
    again : (zs : List ℕ) → rest (front ++ os) zs c → L (form os ++ zs) c

  up_printed : (option : Language A) (print : A → List ℕ) (each : (u : List ℕ) (a : A) → option u a → option (print a) a) (rest : List A → Language C) (k : ℕ) (front : List A) (xs : List ℕ) (c : C) → up_to k option front rest xs c
      → Listed option print rest c (up_to k option front rest) (flat_map (λ p. codes " " ++ print p)) front
  up_printed option print each rest zero front xs c h =
      let P : List A → Type 0 = λ os. rest os xs c in
      record { os = []; ys = xs; ends = subst P (sym (append-nil front)) h; again = λ zs r. let Q : List A → Type 0 = λ os. rest os zs c in subst Q (append-nil front) r }
  up_printed option print each rest (suc k) front xs c h = elim h [
    | inl r ↦ let P : List A → Type 0 = λ os. rest os xs c in
        record { os = []; ys = xs; ends = subst P (sym (append-nil front)) r; again = λ zs r. let Q : List A → Type 0 = λ os. rest os zs c in inl (subst Q (append-nil front) r) }
    | inr s ↦
        let o = s.goes_on.value in
        let i = up_printed option print each rest k (front ++ o ∷ []) s.goes_on.after c s.goes_on.goes_on in
        let P : List A → Type 0 = λ os. rest os i.ys c in
        let longer : (front ++ o ∷ []) ++ i.os ≡ front ++ (o ∷ i.os) = append_assoc front (o ∷ []) i.os in
        record {
          os = o ∷ i.os;
          ys = i.ys;
          ends = subst P longer i.ends;
          again = λ zs r. let Q : List A → Type 0 = λ os. rest os zs c in
              inr (record {
                front = codes " ";
                after = (print o ++ flat_map (λ p. codes " " ++ print p) i.os) ++ zs;
                split = refl;
                word = refl;
                goes_on = record {
                  front = print o;
                  after = flat_map (λ p. codes " " ++ print p) i.os ++ zs;
                  value = o;
                  split = append_assoc (print o) (flat_map (λ p. codes " " ++ print p) i.os) zs;
                  stands = each s.goes_on.front o s.goes_on.stands;
                  goes_on = i.again zs (subst Q (sym longer) r);
                };
              });
        }
  ]

  options_printed : (option : Language A) (print : A → List ℕ) (each : (u : List ℕ) (a : A) → option u a → option (print a) a) (rest : List A → Language C) (xs : List ℕ) (c : C) → options option rest xs c
      → Listed option print rest c (options option rest) (printed_options print) []
  unfolding options
  options_printed option print each rest xs c h =
      let o = h.value in
      let i = up_printed option print each rest 7 (o ∷ []) h.after c h.goes_on in
      record {
        os = o ∷ i.os;
        ys = i.ys;
        ends = i.ends;
        again = λ zs r. record { front = print o; after = flat_map (λ p. codes " " ++ print p) i.os ++ zs; value = o; split = append_assoc (print o) (flat_map (λ p. codes " " ++ print p) i.os) zs; stands = each h.front o h.stands; goes_on = i.again zs r };
      }

-- ---- lines

called_line : (n : List ℕ) (m : Method) (ys : List ℕ) (c : Command) → is_name n ≡ true → arguments n m ys c → command_line (n ++ (codes "." ++ (method_word m ++ (codes "(" ++ ys)))) c
unfolding command_line
called_line n m ys c nm h =
    let tail : List ℕ = method_word m ++ (codes "(" ++ ys) in
    let l : any (call ending n) tail c = (m, lit_call n m tail c (then_put (λ u. u ≡ method_word m) (opens (arguments n m)) (method_word m) (codes "(" ++ ys) c refl (open_put (arguments n m) ys c h))) in
    then_put sp (body ending) [] (n ++ (codes "." ++ tail)) c refl
    (inr (inr (with_put name (λ n. sp ▹ word "." ▹ sp ▹ any (call ending n)) n (codes "." ++ tail) n c (refl, nm)
    (then_put sp (word "." ▹ sp ▹ any (call ending n)) [] (codes "." ++ tail) c refl
    (then_put (word ".") (sp ▹ any (call ending n)) (codes ".") tail c refl (then_put sp (any (call ending n)) [] tail c refl l))))))

made_line : (n : List ℕ) (k : Kind) → is_name n ≡ true → command_line (n ++ (codes " = new " ++ (kind_word k ++ codes "()"))) (New n k)
unfolding command_line
made_line n k nm =
    let c : Command = New n k in
    let last : (kind ▸ λ k. empty (ending (New n k))) (kind_word k ++ codes "()") c = with_put kind (λ k. empty (ending (New n k))) (kind_word k) (codes "()") k c refl (open_put (finishing c) (codes ")") c (finished c)) in
    let words : (word "new" ▹ sp1 ▹ kind ▸ λ k. empty (ending (New n k))) (codes "new " ++ (kind_word k ++ codes "()")) c =
    then_put (word "new") (sp1 ▹ kind ▸ λ k. empty (ending (New n k))) (codes "new") (codes " " ++ (kind_word k ++ codes "()")) c refl
    (then_put sp1 (kind ▸ λ k. empty (ending (New n k))) (codes " ") (kind_word k ++ codes "()") c refl last) in
    then_put sp (body ending) [] (n ++ (codes " = new " ++ (kind_word k ++ codes "()"))) c refl
    (inl (with_put name (λ n. sp ▹ word "=" ▹ sp ▹ word "new" ▹ sp1 ▹ kind ▸ λ k. empty (ending (New n k))) n (codes " = new " ++ (kind_word k ++ codes "()")) n c (refl, nm)
    (then_put sp (word "=" ▹ sp ▹ word "new" ▹ sp1 ▹ kind ▸ λ k. empty (ending (New n k))) (codes " ") (codes "= new " ++ (kind_word k ++ codes "()")) c refl
    (then_put (word "=") (sp ▹ word "new" ▹ sp1 ▹ kind ▸ λ k. empty (ending (New n k))) (codes "=") (codes " new " ++ (kind_word k ++ codes "()")) c refl
    (then_put sp (word "new" ▹ sp1 ▹ kind ▸ λ k. empty (ending (New n k))) (codes " ") (codes "new " ++ (kind_word k ++ codes "()")) c refl words)))))

poll_line : command_line (codes "poll()") Poll
unfolding command_line
poll_line =
    then_put sp (body ending) [] (codes "poll()") Poll refl
    (inr (inl (then_put (word "poll") (empty (ending Poll)) (codes "poll") (codes "()") Poll refl (open_put (finishing Poll) (codes ")") Poll (finished Poll)))))

-- what a command's printed form is made of
record Shown (n : List ℕ) (m : Method) (c : Command) : Type 0 where
  ys : List ℕ
  args : arguments n m ys c
  form : printed c ≡ n ++ (codes "." ++ (method_word m ++ (codes "(" ++ ys)))

shown_line : (n : List ℕ) (m : Method) (c : Command) → is_name n ≡ true → Shown n m c → command_line (printed c) c
shown_line n m c nm s = let P : List ℕ → Type 0 = λ xs. command_line xs c in subst P (sym s.form) (called_line n m s.ys c nm s.args)

-- the command is d, whose form is shown
same_shown : (n : List ℕ) (m : Method) (c d : Command) → c ≡ d → Shown n m d → Shown n m c
same_shown n m c d e s = let P : Command → Type 0 = λ z. Shown n m z in subst P (sym e) s

-- place: with options, or with none
place_form : (n c : List ℕ) (os : List (PlaceOption × ℤ)) (o : PlaceOption × ℤ) → printed (Place n c (o ∷ os)) ≡ n ++ (codes ".place(" ++ (c ++ (codes ", " ++ (printed_options printed_place (o ∷ os) ++ codes ")"))))
unfolding printed
place_form n c os o = five n (codes ".place(") c (codes ", ") (printed_options printed_place (o ∷ os)) (codes ")")

place_shown : (n c : List ℕ) → is_name c ≡ true → (ys : List ℕ) (d : Command) → place_after n c ys d → Shown n method.Place d
unfolding printed options
place_shown n c nm ys d h = elim h [
  | inl l ↦
      let g = l.goes_on.goes_on.goes_on in
      let i = up_printed popt printed_place popt_printed (λ os. closes (ending (Place n c os))) 7 (g.value ∷ []) g.after d g.goes_on in
      let os : List (PlaceOption × ℤ) = g.value ∷ i.os in
      let e : d ≡ Place n c os = close_is (Place n c os) d i.ys i.ends in
      let P : Command → Type 0 = λ z. closes (ending (Place n c os)) (codes ")") z in
      let Q : Command → Type 0 = λ z. options popt (λ os. closes (ending (Place n c os))) (printed_options printed_place os ++ codes ")") z in
      let again : options popt (λ os. closes (ending (Place n c os))) (printed_options printed_place os ++ codes ")") d =
      record {
        front = printed_place g.value;
        after = flat_map (λ p. codes " " ++ printed_place p) i.os ++ codes ")";
        value = g.value;
        split = append_assoc (printed_place g.value) (flat_map (λ p. codes " " ++ printed_place p) i.os) (codes ")");
        stands = popt_printed g.front g.value g.stands;
        goes_on = i.again (codes ")") (subst P (sym e) (closed (Place n c os)));
      } in
      same_shown n method.Place d (Place n c os) e
      (record {
        ys = c ++ (codes ", " ++ (printed_options printed_place os ++ codes ")"));
        args = with_put name (place_after n) c (codes ", " ++ (printed_options printed_place os ++ codes ")")) c (Place n c os) (refl, nm)
            (inl (comma_put (options popt (λ os. closes (ending (Place n c os)))) (printed_options printed_place os ++ codes ")") (Place n c os) (subst Q e again)));
        form = place_form n c i.os g.value;
      })
  | inr r ↦
      same_shown n method.Place d (Place n c []) (close_is (Place n c []) d ys r)
      (record { ys = c ++ codes ")"; args = with_put name (place_after n) c (codes ")") c (Place n c []) (refl, nm) (inr (closed (Place n c []))); form = three n (codes ".place(") c (codes ")") })
]

shown : (n : List ℕ) (m : Method) (xs : List ℕ) (c : Command) → arguments n m xs c → Shown n m c
unfolding printed
shown n method.Set xs c h =
    let i = options_printed sopt printed_set sopt_printed (λ os. closes (ending (Set n os))) xs c h in
    let d : Command = Set n i.os in
    let e : c ≡ d = close_is d c i.ys i.ends in
    let P : Command → Type 0 = λ z. closes (ending d) (codes ")") z in
    same_shown n method.Set c d e
    (let Q : Command → Type 0 = λ z. options sopt (λ os. closes (ending (Set n os))) (printed_options printed_set i.os ++ codes ")") z in
    record { ys = printed_options printed_set i.os ++ codes ")"; args = subst Q e (i.again (codes ")") (subst P (sym e) (closed d))); form = three n (codes ".set(") (printed_options printed_set i.os) (codes ")") })
shown n method.Get xs c h =
    let a = h.value in
    same_shown n method.Get c (Get n a) (close_is (Get n a) c h.after h.goes_on)
    (record { ys = attr_word a ++ codes ")"; args = with_put attr (λ a. closes (ending (Get n a))) (attr_word a) (codes ")") a (Get n a) (refl) (closed (Get n a)); form = three n (codes ".get(") (attr_word a) (codes ")") })
shown n method.Place xs c h = place_shown n h.value (name_is h.front h.value h.stands) h.after c h.goes_on
shown n method.Lift xs c h =
    let a = h.value in
    same_shown n method.Lift c (Lift n a) (close_is (Lift n a) c h.after h.goes_on)
    (record { ys = a ++ codes ")"; args = with_put name (λ a. closes (ending (Lift n a))) (a) (codes ")") a (Lift n a) ((refl, name_is h.front h.value h.stands)) (closed (Lift n a)); form = three n (codes ".lift(") (a) (codes ")") })
shown n method.ColumnConfig xs c h =
    let a = h.value in
    let g = h.goes_on.goes_on.goes_on in
    let i = options_printed copt printed_config copt_printed (λ os. closes (ending (ColumnConfig n a os))) g.after c g.goes_on in
    let d : Command = ColumnConfig n a i.os in
    let e : c ≡ d = close_is d c i.ys i.ends in
    let P : Command → Type 0 = λ z. closes (ending d) (codes ")") z in
    let Q : Command → Type 0 = λ z. options copt (λ os. closes (ending (ColumnConfig n a os))) (printed_options printed_config i.os ++ codes ")") z in
    same_shown n method.ColumnConfig c d e
    (record {
      ys = signed_decimal a ++ (codes ", " ++ (printed_options printed_config i.os ++ codes ")"));
      args = with_put number (λ a. comma (options copt (λ os. closes (ending (ColumnConfig n a os))))) (signed_decimal a) (codes ", " ++ (printed_options printed_config i.os ++ codes ")")) a d (number_printed h.front a h.stands)
          (comma_put (options copt (λ os. closes (ending (ColumnConfig n a os)))) (printed_options printed_config i.os ++ codes ")") d (subst Q e (i.again (codes ")") (subst P (sym e) (closed d)))));
      form = five n (codes ".columnconfig(") (signed_decimal a) (codes ", ") (printed_options printed_config i.os) (codes ")");
    })
shown n method.RowConfig xs c h =
    let a = h.value in
    let g = h.goes_on.goes_on.goes_on in
    let i = options_printed copt printed_config copt_printed (λ os. closes (ending (RowConfig n a os))) g.after c g.goes_on in
    let d : Command = RowConfig n a i.os in
    let e : c ≡ d = close_is d c i.ys i.ends in
    let P : Command → Type 0 = λ z. closes (ending d) (codes ")") z in
    let Q : Command → Type 0 = λ z. options copt (λ os. closes (ending (RowConfig n a os))) (printed_options printed_config i.os ++ codes ")") z in
    same_shown n method.RowConfig c d e
    (record {
      ys = signed_decimal a ++ (codes ", " ++ (printed_options printed_config i.os ++ codes ")"));
      args = with_put number (λ a. comma (options copt (λ os. closes (ending (RowConfig n a os))))) (signed_decimal a) (codes ", " ++ (printed_options printed_config i.os ++ codes ")")) a d (number_printed h.front a h.stands)
          (comma_put (options copt (λ os. closes (ending (RowConfig n a os)))) (printed_options printed_config i.os ++ codes ")") d (subst Q e (i.again (codes ")") (subst P (sym e) (closed d)))));
      form = five n (codes ".rowconfig(") (signed_decimal a) (codes ", ") (printed_options printed_config i.os) (codes ")");
    })
shown n method.Link xs c h =
    let a = h.value in
    same_shown n method.Link c (Link n a) (close_is (Link n a) c h.after h.goes_on)
    (record { ys = a ++ codes ")"; args = with_put name (λ a. closes (ending (Link n a))) (a) (codes ")") a (Link n a) ((refl, name_is h.front h.value h.stands)) (closed (Link n a)); form = three n (codes ".link(") (a) (codes ")") })
shown n method.Unlink xs c h = same_shown n method.Unlink c (Unlink n) (finish_is (Unlink n) c xs h) (record { ys = codes ")"; args = finished (Unlink n); form = refl })
shown n method.Bind xs c h =
    let e = h.value in
    let g = h.goes_on.goes_on.goes_on.goes_on in
    let t = g.value in
    let d : Command = Bind n e t in
    same_shown n method.Bind c d (close_is d c g.after g.goes_on)
    (record {
      ys = event_word e ++ (codes ", " ++ (t ++ codes ")"));
      args = with_put event (λ e. comma (name ▸ λ t. closes (ending (Bind n e t)))) (event_word e) (codes ", " ++ (t ++ codes ")")) e d refl
          (comma_put (name ▸ λ t. closes (ending (Bind n e t))) (t ++ codes ")") d (with_put name (λ t. closes (ending (Bind n e t))) t (codes ")") t d (refl, name_is g.front t g.stands) (closed d)));
      form = five n (codes ".bind(") (event_word e) (codes ", ") t (codes ")");
    })
shown n method.Unbind xs c h =
    let a = h.value in
    same_shown n method.Unbind c (Unbind n a) (close_is (Unbind n a) c h.after h.goes_on)
    (record { ys = event_word a ++ codes ")"; args = with_put event (λ a. closes (ending (Unbind n a))) (event_word a) (codes ")") a (Unbind n a) (refl) (closed (Unbind n a)); form = three n (codes ".unbind(") (event_word a) (codes ")") })
shown n method.Open xs c h = same_shown n method.Open c (OpenWindow n) (finish_is (OpenWindow n) c xs h) (record { ys = codes ")"; args = finished (OpenWindow n); form = refl })
shown n method.Close xs c h = same_shown n method.Close c (CloseWindow n) (finish_is (CloseWindow n) c xs h) (record { ys = codes ")"; args = finished (CloseWindow n); form = refl })
shown n method.Top xs c h = same_shown n method.Top c (TopWindow n) (finish_is (TopWindow n) c xs h) (record { ys = codes ")"; args = finished (TopWindow n); form = refl })
shown n method.Mode xs c h =
    let w = h.value in
    let g = h.goes_on.goes_on.goes_on.goes_on in
    let z = g.value in
    let d : Command = Mode n w z in
    same_shown n method.Mode c d (close_is d c g.after g.goes_on)
    (record {
      ys = signed_decimal w ++ (codes ", " ++ (signed_decimal z ++ codes ")"));
      args = with_put number (λ w. comma (number ▸ λ h. closes (ending (Mode n w h)))) (signed_decimal w) (codes ", " ++ (signed_decimal z ++ codes ")")) w d (number_printed h.front w h.stands)
          (comma_put (number ▸ λ h. closes (ending (Mode n w h))) (signed_decimal z ++ codes ")") d (with_put number (λ h. closes (ending (Mode n w h))) (signed_decimal z) (codes ")") z d (number_printed g.front z g.stands) (closed d)));
      form = five n (codes ".mode(") (signed_decimal w) (codes ", ") (signed_decimal z) (codes ")");
    })
shown n method.Admit xs c h =
    let a = h.value in
    same_shown n method.Admit c (Admit n a) (close_is (Admit n a) c h.after h.goes_on)
    (record { ys = signed_decimal a ++ codes ")"; args = with_put number (λ a. closes (ending (Admit n a))) (signed_decimal a) (codes ")") a (Admit n a) (number_printed h.front h.value h.stands) (closed (Admit n a)); form = three n (codes ".admit(") (signed_decimal a) (codes ")") })
shown n method.Leave xs c h = same_shown n method.Leave c (Leave n) (finish_is (Leave n) c xs h) (record { ys = codes ")"; args = finished (Leave n); form = refl })
shown n method.Frame xs c h =
    let a = h.value in
    same_shown n method.Frame c (SendFrame n a) (close_is (SendFrame n a) c h.after h.goes_on)
    (record { ys = decimal a ++ codes ")"; args = with_put count (λ a. closes (ending (SendFrame n a))) (decimal a) (codes ")") a (SendFrame n a) (count_printed h.front h.value h.stands) (closed (SendFrame n a)); form = three n (codes ".frame(") (decimal a) (codes ")") })
shown n method.Drop xs c h = same_shown n method.Drop c (DropWidget n) (finish_is (DropWidget n) c xs h) (record { ys = codes ")"; args = finished (DropWidget n); form = refl })

line_body : (xs : List ℕ) (c : Command) → command_line xs c → (ys : List ℕ) × body ending ys c
unfolding command_line
line_body xs c h = (h.after, h.goes_on)

printed_new : (n : List ℕ) (k : Kind) → printed (New n k) ≡ n ++ (codes " = new " ++ (kind_word k ++ codes "()"))
unfolding printed
printed_new n k = three n (codes " = new ") (kind_word k) (codes "()")

printed_poll : printed Poll ≡ codes "poll()"
unfolding printed
printed_poll = refl

body_printed : (xs : List ℕ) (c : Command) → body ending xs c → command_line (printed c) c
body_printed xs c h =
    let P : Command → Type 0 = λ d. command_line (printed d) d in
    elim h [
      | inl m ↦
          let k = m.goes_on.goes_on.goes_on.goes_on.goes_on.goes_on in
          let e : c ≡ New m.value k.value = finish_is (New m.value k.value) c k.goes_on.goes_on.goes_on.after k.goes_on.goes_on.goes_on.goes_on in
          let Q : List ℕ → Type 0 = λ ys. command_line ys (New m.value k.value) in
          subst P (sym e) (subst Q (sym (printed_new m.value k.value)) (made_line m.value k.value (name_is m.front m.value m.stands)))
      | inr r ↦ elim r [
        | inl p ↦
            let e : c ≡ Poll = finish_is Poll c p.goes_on.goes_on.goes_on.after p.goes_on.goes_on.goes_on.goes_on in
            let Q : List ℕ → Type 0 = λ ys. command_line ys Poll in
            subst P (sym e) (subst Q (sym printed_poll) poll_line)
        | inr d ↦
            let m = d.goes_on.goes_on.goes_on.goes_on in
            let l = call_lit d.value m.0 _ c m.1 in
            let a = l.goes_on.goes_on.goes_on in
            shown_line d.value m.0 c (name_is d.front d.value d.stands) (shown d.value m.0 a.after c a.goes_on)
      ]
    ]

pub printed_is_a_line : (xs : List ℕ) (c : Command) → command_line xs c → command_line (printed c) c
printed_is_a_line xs c h = at_body (line_body xs c h)
  where
    at_body : (ys : List ℕ) × body ending ys c → command_line (printed c) c
    at_body b = body_printed b.0 c b.1
