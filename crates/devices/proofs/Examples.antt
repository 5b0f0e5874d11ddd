-- What fates leave of small files, computed.
use Rattle.std.proofs.Common.{◌≡◌, true, [], ◌∷◌, None, Some, refl}
use Rattle.devices.specs.Loss.{damaged_by, grown_by}
use Rattle.devices.specs.declared.fate.Fate.{Fate}

-- two bytes stay, and three zeros come behind them
abbrev torn : Fate
torn = record { is_kept = true; bytes = 2; others = 3; other = 0 }

made_whole : damaged_by None (7 ∷ 8 ∷ 9 ∷ []) ≡ 7 ∷ 8 ∷ 9 ∷ []
made_whole = refl

made_torn : damaged_by (Some torn) (7 ∷ 8 ∷ 9 ∷ []) ≡ 7 ∷ 8 ∷ 0 ∷ 0 ∷ 0 ∷ []
made_torn = refl

made_short : damaged_by (Some torn) (7 ∷ []) ≡ 7 ∷ 0 ∷ 0 ∷ 0 ∷ []
made_short = refl

appended_whole : grown_by None (5 ∷ []) (5 ∷ 7 ∷ 8 ∷ 9 ∷ []) ≡ 5 ∷ 7 ∷ 8 ∷ 9 ∷ []
appended_whole = refl

appended_torn : grown_by (Some torn) (5 ∷ []) (5 ∷ 7 ∷ 8 ∷ 9 ∷ []) ≡ 5 ∷ 7 ∷ 8 ∷ []
appended_torn = refl

-- nothing is appended to a file that was damaged
appended_to_damaged : grown_by None (0 ∷ []) (5 ∷ 7 ∷ 8 ∷ 9 ∷ []) ≡ 0 ∷ []
appended_to_damaged = refl
