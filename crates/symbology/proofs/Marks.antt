-- Packet 28, item by item: on an accepted path each piece of the reading is the mark of its item, and each radial has one row, with its
-- own number. Assumes nothing.
use Rattle.std.proofs.Common.{◌≡◌, ℕ, zero, suc, ◌+◌, ◌-◌, ◌*◌, ◌<◌, ◌≤◌, Bool, false, not, eqb, ◌↔◌, List, [], ◌∷◌, ◌++◌, map, length, get_or, take, ℤ, pos, negsuc, sym, refl, ap, ◌∙◌, ap₂, append_assoc, append-nil, arith, length-take, get_or-take, ltb-false, eqb-true}
use mathlib.Core.List.{map-append}
use lib.Signed.{le_z}
use lib.Ieee.{Float, binary32, of_bits}
use borrow.Author.Tests.{not-false}
use Rattle.wire.specs.Bytes.{u32_at, i32_at}
use Rattle.wire.specs.Refusal.{Refusal}
use Rattle.wire.specs.Result.{Result}
use Rattle.wire.specs.Reading.{Read, Flat, give, word, Frame, Piece, as_number, as_unread, as_data, ◌>>=◌, ◌>>◌, refuse_if, remaining, u32, unread, radial_data}
use Rattle.wire.specs.declared.error.XdrItem.{XdrItem}
use Rattle.wire.specs.declared.error.XdrItem.TheVariants as Item
use Rattle.xdr.specs.Xdr as Xdr
use Rattle.xdr.specs.Xdr.{short, pass, uint, int, padding, string_body, string, array_count, pointer, at_least0, list_head, further, elements, counted, parameter}
use Rattle.symbology.specs.Places.{Label, string_body_label, string_padding, product_number, list_count, list_pointer, array_count_label, array_body, mark, Items, string_items, further_items, element_items, list_items, parameter_items, numbers, product_items, radial_items, radials_items, component_items}
use Rattle.symbology.specs.Rows.{row_of}
use Rattle.symbology.specs.declared.generic.XdrRadial.{XdrRadial}
use Rattle.symbology.specs.declared.generic.Gates28.{Gates28}
use Rattle.symbology.specs.Symbology.{Sweep, product_block, xdr_frame, xdr_radial, xdr_walk, xdr_radials, component_head, component, only, payload, generic_packet}
use Rattle.symbology.specs.declared.figures.Packet.TheVariants.{Packet28}
use Rattle.symbology.proofs.Bodies.{payload_inside}
use Rattle.symbology.proofs.Containment.{value_same}
use Rattle.symbology.proofs.Path.{Post, Ends, then, tested, weaken, after, table}

-- how many data bytes a frame has, and what row they make
abbrev pub RowFn : Type 0
RowFn = ℕ × (List ℕ → Result (List ℕ))

abbrev pub row_fn : Frame → RowFn
row_fn f = (f.count, f.row)

abbrev rows_in : List Frame → List RowFn
rows_in = map row_fn

abbrev marked : Items → List Piece
marked items = map (λ (x : Label × ℕ). mark x.0 x.1) items

-- what may be said of an accepted path: its value and end, its rows and the items after it
abbrev pub Said : Type 0 → Type 1
Said A = A → ℕ → List RowFn → Items → Type 0

-- the rows of a list's elements, one after the other
Joined : {A : Type 0} → (A → List RowFn → Type 0) → List A → List RowFn → Type 0
Joined Q [] rs = rs ≡ []
Joined Q (a ∷ l) rs = (first : List RowFn) × (others : List RowFn) × Q a first × Joined Q l others × (rs ≡ first ++ others)

quiet_joined : {A : Type 0} (l : List A) (rs : List RowFn) → Joined (λ (a : A) (qs : List RowFn). qs ≡ []) l rs → rs ≡ []
unfolding Joined
quiet_joined [] rs h = h
quiet_joined (a ∷ l) rs (first, others, q, j, e) = e ∙ ap₂ (λ (x y : List RowFn). x ++ y) q (quiet_joined l others j)

-- the row of radial r, of `bins` integers
abbrev pub level_row : ℕ → ℕ → RowFn
level_row bins r = (bins * 4, row_of Packet28 bins r)

-- the rows of packet 28: one for each radial, with its own number
unfoldable pub Rows28 : Sweep → List RowFn → Type 0
Rows28 a rs = (a.figures.packet ≡ Packet28) × (rs ≡ table (level_row a.figures.n_bins) a.figures.n_radials 0)

eq_of_test : (a c : ℕ) → not (eqb a c) ≡ false → a ≡ c
eq_of_test a c h = eqb-true a c (not-false (eqb a c) h)

positive : (z : ℤ) → le_z z (pos 0) ≡ false → (n : ℕ) × (at_least0 z ≡ suc n)
positive (pos zero) h = absurd (let z : ◌≡◌ {A = ℕ} 0 1 = cc in omega arith)
positive (pos (suc n)) h = (n, refl)
positive (negsuc n) h = absurd (let z : ◌≡◌ {A = ℕ} 0 1 = cc in omega arith)

-- The reading sees the first m bytes of the body b.
module _ (b : List ℕ) (m : ℕ) where
  -- an accepted path of t from p goes through the first of the items, and Q holds of it
  record At {W A : Type 0} (t : Read W A) (p : ℕ) (items : Items) (Q : Said A) : Type 0 where
    on : Ends t (take m b) p (λ a e fs ps. (later : Items) × Q a e (rows_in fs) later × (marked items ≡ ps ++ marked later))

  module _ {W A B : Type 0} where
    at_then : {t : Flat A} {f : A → Read W B} {p : ℕ} {items : Items} {Q : Said A} {P : Said B}
        → At t p items Q
        → ((a : A) (e : ℕ) (rs : List RowFn) (later : Items) → Q a e rs later → At (f a) e later (λ b e' rs' l. P b e' (rs ++ rs') l)) → At (t >>= f) p items P
    at_then {t} {f} {p} {items} {Q} {P} h k =
        record {
          on = after f t (take m b) p _ _ h.on λ a e fs ps q.
              weaken (f a) (take m b) e _ _ (λ c e' fs' ps' r. (r.0, rw (map-append row_fn fs fs') r.1, q.2 ∙ ap (λ (l : List Piece). ps ++ l) r.2 ∙ sym (append_assoc ps ps' _)))
              (k a e (rows_in fs) q.0 q.1).on;
        }

  module _ {W A : Type 0} where
    at_weaken : {t : Read W A} {p : ℕ} {items : Items} {Q P : Said A} → At t p items Q
        → ((a : A) (e : ℕ) (rs : List RowFn) (later : Items) → Q a e rs later → P a e rs later) → At t p items P
    at_weaken {t} {p} h k = record { on = weaken t (take m b) p _ _ (λ a e fs ps r. (r.0, k a e (rows_in fs) r.0 r.1, r.2)) h.on }

    at_give : {p : ℕ} {items : Items} {Q : Said A} (a : A) → Q a p [] items → At {W = W} (give a) p items Q
    unfolding Ends
    at_give {items = items} a h = record { on = (items, h, refl) }

    at_test : (c : Bool) (x : Refusal) (f : Unit {0} → Read W A) {p : ℕ} {items : Items} {Q : Said A}
        → (c ≡ false → At (f tt) p items Q) → At (refuse_if c x >>= f) p items Q
    at_test c x f {p} h = record { on = tested c x f (take m b) p _ λ e. (h e).on }

    at_short : (i : XdrItem) (n : ℕ) (f : Unit {0} → Read W A) {p : ℕ} {items : Items} {Q : Said A}
        → (n ≤ length (take m b) - p → At (f tt) p items Q) → At (short i n >>= f) p items Q
    unfolding Ends short remaining ◌>>=◌
    at_short i n f {p} h = record { on = tested _ _ f (take m b) p _ λ e. (h (ltb-false _ _ e)).on }

    at_left : (f : ℕ → Read W A) {p : ℕ} {items : Items} {Q : Said A} → At (f (length (take m b) - p)) p items Q → At (remaining >>= f) p items Q
    unfolding Ends remaining ◌>>=◌
    at_left f h = record { on = h.on }

    at_data : (f : Unit {0} → Read W A) {p k : ℕ} (row : List ℕ → Result (List ℕ)) {items : Items} {Q : Said A}
        → k ≤ length (take m b) - p → At (f tt) (p + k) items (λ a e rs l. Q a e ((k, row) ∷ rs) l) → At (radial_data k row >>= f) p ((array_body, k) ∷ items) Q
    unfolding Ends radial_data ◌>>=◌ mark
    at_data f {p} {k} row h g =
        record { on = (h, weaken (f tt) (take m b) (p + k) _ _ (λ a e fs ps r. (r.0, r.1, ap (λ (l : List Piece). as_data k ∷ l) r.2)) g.on) }

  -- one item of n bytes at p: the only accepted path of t gives a
  record One {A : Type 0} (t : Flat A) (p n : ℕ) (x : Piece) (a : A) : Type 1 where
    on : (P : Post A) → P a (p + n) [] (x ∷ []) → Ends t (take m b) p P

  module _ {W A B : Type 0} where
    one_then : (f : A → Read W B) {t : Flat A} {p n : ℕ} {label : Label} {a : A} {items : Items} {Q : Said B}
        → One t p n (mark label n) a → At (f a) (p + n) items Q → At (t >>= f) p ((label, n) ∷ items) Q
    one_then f {t} {p} {n} {label} {a} h g =
        record { on = then f t (take m b) p _ (h.on _ (weaken (f a) (take m b) (p + n) _ _ (λ c e fs ps r. (r.0, r.1, ap (λ (l : List Piece). mark label n ∷ l) r.2)) g.on)) }

  one_last : {A : Type 0} {t : Flat A} {p n : ℕ} {label : Label} {a : A} {items : Items} {Q : Said A}
      → One t p n (mark label n) a → Q a (p + n) [] items → At t p ((label, n) ∷ items) Q
  one_last {items = items} h q = record { on = h.on _ (items, q, refl) }

  -- ---- the items of four bytes

  one_pass : (i : XdrItem) {p n : ℕ} → One (pass i n) p n (as_unread n) tt
  unfolding pass short remaining unread ◌>>◌ ◌>>=◌ Ends
  one_pass i {p} {n} = record { on = λ P h. tested _ _ _ (take m b) p _ λ e. h }

  -- a number that is read stands inside the first m bytes
  one_word : (i : XdrItem) {p : ℕ} → One (Xdr.word i) p 4 (as_number 4) (u32_at b p)
  unfolding Xdr.word short remaining u32 ◌>>◌ ◌>>=◌ Ends
  one_word i {p} =
      record {
        on = λ P h. tested _ _ _ (take m b) p _ λ e.
            let room : 4 ≤ length (take m b) - p = ltb-false _ _ e in
            rw (value_same word b (take m b) p λ k lo hi. sym (get_or-take m b k 0 (omega (arith, length-take m b)))) h;
      }

  -- a value worked out of the number
  one_of : {A B : Type 0} {t : Flat A} {p n : ℕ} {x : Piece} {a : A} (g : A → B) → One t p n x a → One (t >>= λ v. give (g v)) p n x (g a)
  unfolding Ends
  one_of {t = t} {p = p} g h = record { on = λ P k. then _ t (take m b) p P (h.on _ k) }

  one_uint : {p : ℕ} → One uint p 4 (as_number 4) (u32_at b p)
  unfolding uint
  one_uint = one_word _

  one_int : {p : ℕ} → One int p 4 (as_number 4) (i32_at b p)
  unfolding int i32_at
  one_int = one_of _ (one_word _)

  one_float : {p : ℕ} → One Xdr.float p 4 (as_number 4) (of_bits binary32 (u32_at b p))
  unfolding Xdr.float
  one_float = one_of _ (one_word _)

  -- ---- items of any length: no rows, and afterwards the items that follow

  abbrev Quiet : {A : Type 0} → (ℕ → Items) → Said A
  Quiet rest a e rs later = (rs ≡ []) × (later ≡ rest e)

  quiet_then : {W A B : Type 0} {t : Flat A} {f : A → Read W B} {p : ℕ} {items : Items} {rest : ℕ → Items} {P : Said B}
      → At t p items (Quiet rest) → ((a : A) (e : ℕ) → At (f a) e (rest e) P) → At (t >>= f) p items P
  quiet_then h k = at_then h λ a e rs later q. rw (q.0, q.1) (k a e)

  at_body : (n p : ℕ) (rest : ℕ → Items) → At (string_body n) p ((string_body_label, n) ∷ (string_padding, padding n) ∷ rest (p + n + padding n)) (Quiet rest)
  unfolding string_body ◌>>◌ mark
  at_body n p rest = one_then _ (one_pass _) (one_last (one_pass _) (refl, refl))

  at_string : (p : ℕ) (rest : ℕ → Items) → At string p (string_items b rest p) (Quiet rest)
  unfolding string ◌>>◌ string_items mark
  at_string p rest = one_then _ one_uint (at_test _ _ _ λ h. quiet_then (at_body _ _ rest) λ a e. at_give _ (refl, refl))

  at_parameter : (p : ℕ) (rest : ℕ → Items) → At parameter p (parameter_items b rest p) (Quiet rest)
  unfolding parameter ◌>>◌ parameter_items
  at_parameter p rest = quiet_then (at_string p (string_items b rest)) λ a e. quiet_then (at_string e rest) λ a' e'. at_give _ (refl, refl)

  -- ---- lists

  module _ {A : Type 0} (t : Flat A) (items : (ℕ → Items) → ℕ → Items) (Q : A → List RowFn → Type 0)
      (h : (p : ℕ) (rest : ℕ → Items) → At t p (items rest p) (λ a e rs later. Q a rs × (later ≡ rest e))) where
    abbrev All : (ℕ → Items) → Said (List A)
    All rest l e rs later = Joined Q l rs × (later ≡ rest e)

    -- an element and n further ones
    module _ (n : ℕ) (rest : ℕ → Items) (others : (q : ℕ) → At (further t n) q (further_items items n rest q) (All rest)) where
      at_some : (p : ℕ) → At {W = ⊥} (t >>= λ a. further t n >>= λ l. give (a ∷ l)) p (items (further_items items n rest) p) (All rest)
      unfolding Joined
      at_some p =
          at_then (h p (further_items items n rest)) λ a e rs later q.
          rw q.1
          (at_then (others e) λ l e' rs' later' q'.
          at_give (a ∷ l) ((rs, rs', q.0, q'.0, simp append-nil), q'.1))

    at_further : (n p : ℕ) (rest : ℕ → Items) → At (further t n) p (further_items items n rest p) (All rest)
    unfolding further pointer ◌>>◌ further_items Joined mark
    at_further zero p rest = at_give [] (refl, refl)
    at_further (suc n) p rest = one_then _ (one_pass _) (at_some n rest (λ q. at_further n q rest) (p + 4))

    at_elements : (n p : ℕ) (rest : ℕ → Items) → At (elements t n) p (element_items items n rest p) (All rest)
    unfolding elements element_items Joined
    at_elements zero p rest = at_give [] (refl, refl)
    at_elements (suc n) p rest = at_some n rest (λ q. at_further n q rest) p

    at_counted : (p : ℕ) (rest : ℕ → Items) → At (counted t) p (list_items b items rest p) (All rest)
    unfolding counted list_items
    at_counted p rest = at_then (head p (element_items items (at_least0 (i32_at b p)) rest)) λ n e rs later q. rw (q.0, q.1, q.2) (at_elements _ e rest)
      where
        head : (p : ℕ) (rest : ℕ → Items)
            → At list_head p ((list_count, 4) ∷ (list_pointer, 4) ∷ rest (p + 4 + 4)) (λ n e rs later. (rs ≡ []) × (n ≡ at_least0 (i32_at b p)) × (later ≡ rest e))
        head p rest = unfold list_head pointer ◌>>◌ mark in one_then _ one_int (one_then _ (one_pass _) (at_test _ _ _ λ h. at_give _ (refl, refl, refl)))

  at_parameters : (p : ℕ) (rest : ℕ → Items) → At (counted parameter) p (list_items b (parameter_items b) rest p) (Quiet rest)
  at_parameters p rest = at_weaken (at_counted parameter _ _ at_parameter p rest) λ l e rs later q. (quiet_joined l rs q.0, q.1)

  -- a number of the product block
  infixr 30 ◌▹◌
  ◌▹◌ : (i : XdrItem) {A : Type 0} {u : Flat A} {p : ℕ} {items : Items} {Q : Said A} → At u (p + 4) items Q → At (pass i 4 >> u) p ((product_number, 4) ∷ items) Q
  unfolding ◌>>◌ mark
  i ▹ h = one_then _ (one_pass i) h

  at_product : (p : ℕ) (rest : ℕ → Items) → At product_block p (product_items b rest p) (Quiet rest)
  unfolding product_block product_items numbers ◌>>◌
  at_product p rest =
      quiet_then (at_string _ _) λ _ e₁.
      quiet_then (at_string _ _) λ _ e₂.
      Item.Int ▹ Item.Int ▹ Item.Uint ▹
      quiet_then (at_string _ _) λ _ e₃.
      Item.Float ▹ Item.Float ▹ Item.Float ▹ Item.Uint ▹ Item.Uint ▹ Item.Float ▹
      Item.Int ▹ Item.Int ▹ Item.Int ▹ Item.Int ▹ Item.Int ▹ Item.Int ▹
      quiet_then (at_parameters _ rest) λ _ e₄.
      at_give tt (refl, refl)

  -- ---- radials

  module _ (radials r : ℕ) (expected : ℕ → ℕ) where
    -- after a frame stands the body of its array, whose count is the number of bins
    Framed : (ℕ → Items) → Said XdrRadial
    Framed rest xdr e rs later =
        (rs ≡ []) × (later ≡ (array_body, xdr.bins * 4) ∷ rest (e + xdr.bins * 4)) × (xdr.bins * 4 ≤ length (take m b) - e) × (xdr.bins ≡ expected xdr.bins)

    at_frame : (p : ℕ) (rest : ℕ → Items) → At (xdr_frame radials r expected) p (radial_items b rest p) (Framed rest)
    unfolding xdr_frame radial_items ◌>>◌ mark Framed
    at_frame p rest =
        one_then _ one_float (one_then _ (one_pass _) (one_then _ one_float (one_then _ one_int
        (quiet_then (at_string _ _) λ _ q.
        at_then (count q) λ n e rs later h.
        at_test _ _ _ λ h29.
        at_test _ _ _ λ h31.
        at_test _ _ _ λ h32.
        at_test _ _ _ λ h33.
        let e₃₁ = eq_of_test _ _ h31 in
        let e₃₂ : n ≡ at_least0 (i32_at b (p + 4 + 4 + 4)) = eq_of_test _ _ h32 in
        at_give _ (simp append-nil h.0, rw (← e₃₂) h.2, rw (← e₃₂) h.1, e₃₁)))))
      where
        count : (q : ℕ) → At array_count q ((array_count_label, 4) ∷ (array_body, u32_at b q * 4) ∷ rest (q + 4 + u32_at b q * 4))
            (λ n e rs later. (rs ≡ []) × (n * 4 ≤ length (take m b) - e) × (later ≡ (array_body, n * 4) ∷ rest (e + n * 4)))
        count q = unfold array_count in one_then _ one_uint (at_test _ _ _ λ h25. at_short _ _ _ λ room. at_give _ (refl, room, refl))

    -- a radial: one row, of the bins that it says
    Rowed : (ℕ → Items) → Said XdrRadial
    Rowed rest xdr e rs later = (rs ≡ level_row xdr.bins r ∷ []) × (later ≡ rest e) × (xdr.bins ≡ expected xdr.bins)

    at_radial : (p : ℕ) (rest : ℕ → Items) → At (xdr_radial radials r expected) p (radial_items b rest p) (Rowed rest)
    unfolding xdr_radial ◌>>◌ Framed Rowed
    at_radial p rest = at_then (at_frame p rest) λ xdr e rs later h. rw (h.0, h.1) (at_data _ _ h.2 (at_give xdr (refl, refl, h.3)))

  at_walk : (radials bins n r p : ℕ) (rest : ℕ → Items) → At (xdr_walk radials bins n r) p (radials_items b n rest p) (λ l e rs later. (rs ≡ table (level_row bins) n r) × (later ≡ rest e))
  unfolding xdr_walk radials_items table Rowed
  at_walk radials bins zero r p rest = at_give [] (refl, refl)
  at_walk radials bins (suc n) r p rest =
      at_then (at_radial radials r _ p (radials_items b n rest)) λ xdr e rs later h.
      rw h.1
      (at_then (at_walk radials bins n (suc r) e rest) λ l e' rs' later' h'.
      at_give _ (simp append-nil (rw (h.0, h.2, h'.0) refl), h'.1))

  -- what packet 28 gives, and the items after it
  abbrev Swept : (ℕ → Items) → Said Sweep
  Swept rest a e rs later = Rows28 a rs × (later ≡ rest e)

  at_radials : (n : ℕ) (gate_width first_gate : Float) (p : ℕ) (rest : ℕ → Items) → At (xdr_radials (suc n) gate_width first_gate) p (radials_items b (suc n) rest p) (Swept rest)
  unfolding xdr_radials radials_items table Rows28 Rowed
  at_radials n gate_width first_gate p rest =
      at_then (at_radial (suc n) 0 _ p (radials_items b n rest)) λ xdr e rs later h.
      let z : suc n - 1 ≡ n = omega arith in
      rw (h.1, z)
      (at_then (at_walk (suc n) xdr.bins n 1 e rest) λ l e' rs' later' h'.
      at_give _ ((refl, simp append-nil (rw (h.0, h'.0) refl)), h'.1))

  -- after a head stand the radials, of which there is one
  at_head : (p : ℕ) (rest : ℕ → Items)
      → At component_head p (component_items b rest p)
      (λ (h : Gates28) e rs later. (rs ≡ []) × (later ≡ radials_items b h.radials rest e) × ((n : ℕ) × (h.radials ≡ suc n)))
  unfolding component_head component_items ◌>>◌ mark
  at_head p rest =
      one_then _ one_int
      (at_test _ _ _ λ h27.
      quiet_then (at_string _ _) λ _ e₁.
      one_then _ one_float (one_then _ one_float
      (quiet_then (at_parameters _ _) λ _ q.
      one_then _ one_int
      (at_test _ _ _ λ h29.
      at_test _ _ _ λ h30.
      at_give _ (refl, refl, positive (i32_at b q) h29)))))

  at_component : (p : ℕ) (rest : ℕ → Items) → At component p (component_items b rest p) (Swept rest)
  unfolding component
  at_component p rest = at_then (at_head p rest) λ h e rs later q. rw (q.0, q.1, q.2.1) (at_radials q.2.0 _ _ e rest)

  at_only : (l : List Sweep) (rs : List RowFn) (p : ℕ) → Joined Rows28 l rs → At (only l) p [] (λ a e rs' later. Rows28 a (rs ++ rs') × (later ≡ []))
  unfolding only Joined Rows28 Ends
  at_only [] rs p j = record { on = tt }
  at_only (a ∷ []) rs p (first, others, q, j, e) =
      at_give a ((q.0, append-nil rs ∙ e ∙ ap (λ (x : List RowFn). first ++ x) j ∙ append-nil first ∙ q.1), refl)
  at_only (a ∷ c ∷ l) rs p j = record { on = tt }

  at_payload : (p : ℕ)
      → At payload p (product_items b (list_items b (component_items b) λ q. []) p) (λ a e rs later. Rows28 a rs × (later ≡ []) × (length (take m b) - e ≡ 0))
  unfolding payload ◌>>◌
  at_payload p =
      quiet_then (at_product p _) λ _ e₁.
      at_then (at_counted component (component_items b) Rows28 at_component e₁ _) λ l e₂ rs later h.
      rw h.1
      (at_then (at_only l rs e₂ h.0) λ a e₃ rs' later' h'.
      rw h'.1
      (at_left _
      (at_test _ _ _ λ h35.
      at_give a (simp append-nil h'.0, refl, eq_of_test _ _ h35))))

-- from byte 18 on: the reserved bytes, the length and the payload; after the payload nothing is read
unfoldable pub Generic : List ℕ → Post Sweep
Generic b a e fs ps =
    Rows28 a (rows_in fs)
    × (ps ≡ as_unread 2 ∷ as_number 4 ∷ marked (product_items b (list_items b (component_items b) λ q. []) 24))
    × ((i : ℕ) → i < length b → (e ≤ i) ↔ (24 + u32_at b 20 ≤ i))
    × (((i : ℕ) → get_or b i 0 < 256) → 24 + u32_at b 20 ≤ length b)

pub generic : (b : List ℕ) → Ends generic_packet b 18 (Generic b)
unfolding generic_packet Ends ◌>>◌ ◌>>=◌ remaining u32 unread Generic
generic b =
    tested _ _ _ b _ _ λ h12.
    tested _ _ _ b _ _ λ h23.
    let m = 24 + u32_at b 20 in
    weaken payload (take m b) 24 _ _ (λ a e fs ps r.
    let all : marked (product_items b (list_items b (component_items b) λ q. []) 24) ≡ ps = r.2 ∙ ap (λ (l : Items). ps ++ marked l) r.1.1 ∙ append-nil ps in
    let end : length (take m b) - e ≡ 0 = r.1.2 in
    let cut = length-take m b in
    (r.1.0, ap (λ (l : List Piece). as_unread 2 ∷ as_number 4 ∷ l) (sym all), λ i lt. omega arith, λ bytes. payload_inside b bytes (omega (arith, ltb-false _ _ h12)) h23))
    (at_payload b m 24).on
