-- Values that their parts determine.
use Rattle.std.proofs.Common.{◌≡◌, ◌<◌, refl, arith}
use Rattle.call_values.specs.declared.choices.End.{End}
use Rattle.call_values.specs.declared.choices.End.TheVariants.{Ask, Reply, Plain}
use Rattle.call_values.specs.Ends.{end_symbol}
use Rattle.call_values.specs.declared.positions.Fix.{Fix}
use Rattle.call_values.specs.Areas.{Rectangle}

-- ends of sequence have symbols of their own
pub end_one : (e f : End) → end_symbol e ≡ end_symbol f → e ≡ f
end_one Ask Ask h = refl
end_one Ask Reply h = absurd (omega arith)
end_one Ask Plain h = absurd (omega arith)
end_one Reply Ask h = absurd (omega arith)
end_one Reply Reply h = refl
end_one Reply Plain h = absurd (omega arith)
end_one Plain Ask h = absurd (omega arith)
end_one Plain Reply h = absurd (omega arith)
end_one Plain Plain h = refl

-- the symbol of an end of sequence is a character
pub end_small : (e : End) → end_symbol e < 128
end_small Ask = omega arith
end_small _ = omega arith

-- positions with the same parts are the same
pub same_fix : (f g : Fix) → f.quadrant ≡ g.quadrant → f.lat_deg ≡ g.lat_deg → f.lat_min ≡ g.lat_min → f.lon_deg ≡ g.lon_deg → f.lon_min ≡ g.lon_min → f ≡ g
same_fix f g p q r s t = λ i. record { quadrant = p i; lat_deg = q i; lat_min = r i; lon_deg = s i; lon_min = t i }

-- and so are areas
pub same_area : (f g : Rectangle) → f.quadrant ≡ g.quadrant → f.latitude ≡ g.latitude → f.longitude ≡ g.longitude → f.south ≡ g.south → f.east ≡ g.east → f ≡ g
same_area f g p q r s t = λ i. record { quadrant = p i; latitude = q i; longitude = r i; south = s i; east = t i }
