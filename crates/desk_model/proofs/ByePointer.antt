-- What the pointer lets go of where a client leaves: the same as where the client's windows close.
use Rattle.std.proofs.Common.{◌≡◌, ℕ, Bool, true, false, cond, not, nat_eq, List, [], ◌∷◌, Option, Some, None, refl, sym, ap, ◌∙◌}
use Rattle.std.proofs.lemmas.Bool.{true≢false, eqb-true}
use Rattle.std.specs.List.{list_any}
use Rattle.widget_model.specs.Pointer.{Grab, no_grab, on_widget, drags}
use Rattle.widget_model.specs.Trees.{root_of}
use Rattle.desk_model.specs.Desk.{Desk, is_window}
use Rattle.desk_model.specs.Clients.{without_client}
use Rattle.desk_model.specs.LetGo.{is_in_window, grab_left, focus_left, let_go}
use Rattle.desk_model.specs.OwnPart.{windows_of_others}
use Rattle.desk_model.proofs.OthersRows.{filter-filter}
use Rattle.desk_model.proofs.OwnPart.{LeavesApart-without_client, is_in_window-others}

-- the desk with the client's windows closed
abbrev pub closed : ℕ → Desk → Desk
closed client desk = record desk { windows = windows_of_others client desk.windows }

-- none of the others' windows is the client's
none_own : (client : ℕ) (name : List ℕ) (windows : List (ℕ × List ℕ)) → list_any (is_window client name) (windows_of_others client windows) ≡ false
none_own client name [] = refl
none_own client name (window ∷ windows) = by (none_own client name windows) (nat_eq client window.0) refl
  where
    by : list_any (is_window client name) (windows_of_others client windows) ≡ false → (b : Bool) → nat_eq client window.0 ≡ b → list_any (is_window client name) (cond (not b) (window ∷ windows_of_others client windows) (windows_of_others client windows)) ≡ false
    by rest true q = rest
    by rest false q = rw q rest

own_out : (client : ℕ) (desk : Desk) (name : List ℕ) → is_in_window (closed client desk) (client, name) ≡ false
own_out client desk name = none_own client (root_of desk.rows client name) desk.windows

-- what is in a window then is another's
pub others-inside : (client : ℕ) (desk : Desk) (key : ℕ × List ℕ) → is_in_window (closed client desk) key ≡ true → nat_eq client key.0 ≡ false
others-inside client desk key inside = by (nat_eq client key.0) refl
  where
    by : (b : Bool) → nat_eq client key.0 ≡ b → b ≡ false
    by true q = absurd (true≢false (sym inside ∙ ap (λ (c : ℕ). is_in_window (closed client desk) (c, key.1)) (sym (eqb-true client key.0 q)) ∙ own_out client desk key.1))
    by false q = refl

gone_is : (client : ℕ) (desk : Desk) → without_client client (closed client desk) ≡ without_client client desk
gone_is client desk = ap (λ (ws : List (ℕ × List ℕ)). record (without_client client desk) { windows = ws }) (filter-filter (λ (window : ℕ × List ℕ). not (nat_eq client window.0)) desk.windows)

inside-same : (client : ℕ) (desk : Desk) (key : ℕ × List ℕ) → is_in_window (without_client client desk) key ≡ is_in_window (closed client desk) key
inside-same client desk key = by (nat_eq client key.0) refl
  where
    by : (b : Bool) → nat_eq client key.0 ≡ b → is_in_window (without_client client desk) key ≡ is_in_window (closed client desk) key
    by true q =
        let own : (windows : List (ℕ × List ℕ)) (name : List ℕ) → list_any (is_window key.0 name) (windows_of_others client windows) ≡ false = λ windows name. ap (λ (c : ℕ). list_any (is_window c name) (windows_of_others client windows)) (sym (eqb-true client key.0 q)) ∙ none_own client name windows in
        own desk.windows (root_of (without_client client desk).rows key.0 key.1) ∙ sym (own desk.windows (root_of desk.rows key.0 key.1))
    by false q =
        ap (λ (d : Desk). is_in_window d key) (sym (gone_is client desk))
        ∙ is_in_window-others client key.0 key.1 (closed client desk) (without_client client (closed client desk)) q (LeavesApart-without_client client (closed client desk))

grab-same : (one two : ℕ × List ℕ → Bool) → ((key : ℕ × List ℕ) → one key ≡ two key) → (grab : Grab) → grab_left one grab ≡ grab_left two grab
grab-same one two same no_grab = refl
grab-same one two same (on_widget key) = ap (λ (b : Bool). cond b (on_widget key) no_grab) (same key)
grab-same one two same (drags window dx dy) = ap (λ (b : Bool). cond b (drags window dx dy) no_grab) (same window)

focus-same : (one two : ℕ × List ℕ → Bool) → ((key : ℕ × List ℕ) → one key ≡ two key) → (focus : Option (ℕ × List ℕ)) → focus_left one focus ≡ focus_left two focus
focus-same one two same None = refl
focus-same one two same (Some widget) = ap (λ (b : Bool). cond b (Some widget) None) (same widget)

-- So the pointer may let go before the client's widgets are removed.
pub let_go-closed : (client : ℕ) (desk : Desk) → let_go (without_client client desk) ≡ record (without_client client desk) { pointer = (let_go (closed client desk)).pointer }
unfolding let_go
let_go-closed client desk =
    ap (λ (grab : Grab). record (without_client client desk) { pointer = record desk.pointer { grab = grab; focus = focus_left (is_in_window (without_client client desk)) desk.pointer.focus } })
    (grab-same (is_in_window (without_client client desk)) (is_in_window (closed client desk)) (inside-same client desk) desk.pointer.grab)
    ∙ ap (λ (focus : Option (ℕ × List ℕ)). record (without_client client desk) { pointer = record desk.pointer { grab = grab_left (is_in_window (closed client desk)) desk.pointer.grab; focus = focus } })
    (focus-same (is_in_window (without_client client desk)) (is_in_window (closed client desk)) (inside-same client desk) desk.pointer.focus)
