-- Known bytes that are read or written part after part.
use Rattle.std.proofs.Common.{◌≡◌, ℕ, ◌+◌, ◌-◌, ◌≤◌, ◌⊎◌, inl, inr, List, append-nil, length, IfSome, Some, None, take, drop, Option, take-add, take_all, length-drop, length-take-le, ◌∙◌, arith}
use Rattle.std.proofs.Math.Seq.{take-append_seam}
use Rattle.std.proofs.KnownBytes.{Appends-trans, Consumes-trans}
use Rattle.std.specs.Io.KnownBytes.{Appends, Consumes, IsAtEnd}

-- a part of n bytes behind the first k, which stand as they stood
pub read_behind : (u v w : Option (List ℕ)) (old new : List ℕ) (k n : ℕ) → Consumes u v (take k old) → take k new ≡ take k old
    → Consumes v w (take n (drop k new)) → Consumes u w (take (k + n) new)
read_behind u v w old new k n x same y = rw (take-add k n new, same) (Consumes-trans u v w _ _ x y)

-- what is behind the first k, up to the end
rest_whole : (bs : List ℕ) (k : ℕ) → take (length bs - k) (drop k bs) ≡ drop k bs
rest_whole bs k = take_all _ _ (omega (arith, length-drop k bs))

-- a part of n bytes behind the first k
pub written_behind : (u v w : Option (List ℕ)) (bs : List ℕ) (k n : ℕ) → Appends u v (take k bs)
    → Appends v w (take n (take (length bs - k) (drop k bs))) → Appends u w (take (k + n) bs)
written_behind u v w bs k n x y = rw (take-add k n bs) (Appends-trans u v w _ _ x (rw (rest_whole bs k) at y))

-- What was read is the front of the input, as many bytes as the buffer has, or all of it where that is less; what was written of it is what is to be
-- written of that.
pub first_written : (u v : Option (List ℕ)) (buf : List ℕ) (m n : ℕ) (f : List ℕ → List ℕ) (o o' : Option (List ℕ)) → length buf ≡ m → n ≤ length buf
    → Consumes u v (take n buf) → (n ≡ length buf) ⊎ IsAtEnd v → Appends o o' (f (take n buf)) → IfSome u (λ xs. Appends o o' (f (take m xs)))
first_written None v buf m n f o o' room l h e p = tt
first_written (Some xs) None buf m n f o o' room l h e p = absurd h
first_written (Some xs) (Some ys) buf m n f o o' room l h (inl e) p =
    let size : length (take n buf) ≡ m = length-take-le n buf l ∙ e ∙ room in
    rw (h, ← size, take-append_seam (take n buf) ys) p
first_written (Some xs) (Some ys) buf m n f o o' room l h (inr e) p =
    rw (h, e, append-nil (take n buf), take_all m (take n buf) (omega (arith, length-take-le n buf l))) p
