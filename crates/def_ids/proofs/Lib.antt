mod IdsFacts
